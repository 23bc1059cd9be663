use Rattle.breaks.specs.Asks.{Begun}
use Rattle.breaks.proofs.short_starts.Given as goal

abbrev pub invariant-loop-i : goal.invariant-loop-i
invariant-loop-i l = Begun l.text.limits l.text.sums.now l.best l.next l.i
