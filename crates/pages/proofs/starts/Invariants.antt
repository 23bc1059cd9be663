use Rattle.pointer.specs.Asks.{start_strips}
use Rattle.pages.proofs.Paging.{Paging}
use Rattle.pages.proofs.starts.Given as goal

abbrev pub invariant-loop-i : goal.invariant-loop-i
invariant-loop-i l = Paging l.l l.sums l.initial.moves l.moves l.taken (start_strips l.best l.next l.left l.right) l.i l.r
