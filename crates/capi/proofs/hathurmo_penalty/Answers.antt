use Rattle.std.proofs.Common.{ap, ◌∙◌}
use Rattle.capi.specs.Promise.{in_numbers}
use Rattle.capi.proofs.hathurmo_penalty.Goals as goal

pub returns : goal.returns
returns c = c.from.ensures ∙ ap in_numbers c.penalty_alone.ensures.tells
