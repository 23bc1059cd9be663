use Rattle.strips.proofs.Writing.{Filling}
use Rattle.strips.proofs.fill_sums.Given as goal

abbrev pub invariant-loop-k : goal.invariant-loop-k
invariant-loop-k l = Filling l.lengths l.fn.sums l.sums l.k l.total
