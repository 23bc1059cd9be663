use Rattle.pointer.specs.Asks.{stepping}
use Rattle.pointer.proofs.Lowers.{Lowering}
use Rattle.pointer.proofs.start.Start.steps.Given as goal

abbrev pub invariant-loop-at : goal.invariant-loop-at
invariant-loop-at l = Lowering (stepping l.self) l.self.i l.r l.initial.moves l.moves l.at

abbrev pub decreases-loop-at : goal.decreases-loop-at
decreases-loop-at l = l.at
