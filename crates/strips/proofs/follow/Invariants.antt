use Rattle.strips.proofs.Following.{Following}
use Rattle.strips.proofs.follow.Given as goal

abbrev pub invariant-loop-found : goal.invariant-loop-found
invariant-loop-found l = Following l.next l.offset l.n l.first l.initial.answer l.answer l.at l.found
