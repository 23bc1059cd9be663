use Rattle.std.proofs.Common.{lt-ltb, le-ltb, eq-eqb, ne_eqb}
use Rattle.refusals.proofs.check_words.Goals as goal

pub returns-then-n-eq0 : goal.returns-then-n-eq0
returns-then-n-eq0 c = simp (eq-eqb _ _ c.if-n-eq0.true)

pub returns-then-most-n : goal.returns-then-most-n
returns-then-most-n c = simp (ne_eqb _ _ c.if-n-eq0.false, lt-ltb _ _ c.if-most-n.true)

pub returns : goal.returns
returns c = simp (ne_eqb _ _ c.if-n-eq0.false, le-ltb _ _ c.if-most-n.false)
