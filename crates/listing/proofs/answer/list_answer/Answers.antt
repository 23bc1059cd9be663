use Rattle.std.proofs.Common.{◌∙◌}
use Rattle.listing.proofs.Answers.{told_row}
use Rattle.listing.proofs.answer.list_answer.Goals as goal

pub returns-in-Err-Refused : goal.returns-in-Err-Refused
returns-in-Err-Refused c =
    let refused = rw c.in-Err-Refused.is at c.in-Err-Refused.field-0-is in
    let refusal = rw (c.in-Err-Refused.is, refused) at c.requires in
    rw (refusal ∙ told_row _ c.from.ensures) c.whole-in-Err-Refused.ensures
