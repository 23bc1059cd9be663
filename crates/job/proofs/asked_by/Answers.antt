use Rattle.std.proofs.Common.{eq-eqb, ne_eqb}
use Rattle.job.specs.Reader.{asked_by}
use Rattle.job.proofs.asked_by.Goals as goal

pub returns-then-count-eq2 : goal.returns-then-count-eq2
unfolding asked_by
returns-then-count-eq2 c = rw (eq-eqb _ _ c.if-count-eq2.true)

pub returns : goal.returns
unfolding asked_by
returns c = rw (ne_eqb _ _ c.if-count-eq2.false)
