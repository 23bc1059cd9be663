use Rattle.breaks.proofs.Started.{Started}
use Rattle.breaks.proofs.starts.Given as goal

abbrev pub invariant-going_back : goal.invariant-going_back
invariant-going_back l = Started l.text.limits l.text.sums.now l.initial.moves l.queue l.best l.next l.moves l.q l.i
