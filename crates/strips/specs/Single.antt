-- A rule that takes no move, or one. Assumes nothing.
use Rattle.std.specs.Prelude.{ℕ, ◌+◌, ◌≤◌, ◌<◌, ◌≡◌, List, length, set}
use Rattle.std.proofs.Common.{arith}
use Rattle.paper.specs.declared.Move.{Move}
use Rattle.paper.specs.Moves.{code, moved, still}
use Rattle.strips.specs.Running.{Ran, running_first, running_more, running_done}

module _ {A : Type 0} {a : A} {k : ℕ} {m : List ℕ} where
  pub ran_still : k ≤ length m → Ran (still a) k m m k a
  ran_still h = running_done (still a) k m m k a (running_first (still a) k m h)

  pub ran_move : {mv : Move} {n : List ℕ} → k < length m → n ≡ set m k (code mv) → Ran (moved mv (still a)) k m n (k + 1) a
  ran_move {mv} room put =
      rw put
      (running_done (moved mv (still a)) k m (set m k (code mv)) (k + 1) a
      (running_more (moved mv (still a)) k m m k mv (running_first (moved mv (still a)) k m (omega arith)) room))
