use Rattle.pointer.specs.Asks.{jumping}
use Rattle.pointer.proofs.Lowers.{Lowering}
use Rattle.pointer.proofs.start.Start.jumps.Given as goal

abbrev pub invariant-loop-to : goal.invariant-loop-to
invariant-loop-to l = Lowering (jumping l.self l.left) l.self.i l.r l.initial.moves l.moves l.at

abbrev pub decreases-loop-to : goal.decreases-loop-to
decreases-loop-to l = l.at
