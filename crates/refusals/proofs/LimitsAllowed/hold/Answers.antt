use Rattle.std.proofs.Math.Bool.{and_assoc}
use Rattle.paper.specs.Allowed.{limits_hold}
use Rattle.refusals.proofs.LimitsAllowed.hold.Goals as goal

pub returns : goal.returns
unfolding limits_hold
returns c = simp (and_assoc, c.last_holds.ensures)
