use Rattle.std.proofs.Common.{◌-◌, length}
use Rattle.pointer.proofs.Joining.{Joining}
use Rattle.pointer.proofs.start.Start.links.Given as goal

abbrev pub invariant-loop-k : goal.invariant-loop-k
invariant-loop-k l = Joining l.self l.initial.left l.right l.initial.moves l.left l.moves l.k

abbrev pub decreases-loop-k : goal.decreases-loop-k
decreases-loop-k l = length l.best - l.k
