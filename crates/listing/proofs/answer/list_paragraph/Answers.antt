use Rattle.listing.proofs.Setters.{paragraph_answered}
use Rattle.listing.proofs.answer.list_paragraph.Goals as goal

pub list_answer-requires : goal.list_answer-requires
list_answer-requires c = paragraph_answered _ _ c.set_paragraph-answer.ensures
