-- The moves of an index are at most 2n. Assumes nothing but what each law states.
use Prim.Native.Nat.{ℕ, ◌+◌, ◌*◌, ◌≤◌}
use Rattle.std.specs.Prelude.{length}
use mathlib.Core.List.{List}
use native.Mathlib.Omega.{arith}
use Rattle.paper.specs.declared.PageLimits.{PageLimits}
use Rattle.paper.specs.PointerRules.{Pages, pages_of, after_starts, pointer_moves}
use Rattle.pointer_theory.proofs.Ready.{ready}
use Rattle.pointer_theory.proofs.Paid.{potential_low, starts_paid}

module _ (l : PageLimits) (ws : List ℕ) where
  abbrev p : Pages
  p = pages_of l ws

  abbrev n : ℕ
  n = length ws

  -- the moves of the first d starts
  pub starts_count : (d : ℕ) → length (after_starts p n d).moves ≤ 2 * n
  starts_count d = omega (arith, starts_paid l ws d, potential_low l ws (ready l ws d))

  -- Demand 3: at most 2n moves.
  pub pointer_count : length (pointer_moves l ws) ≤ 2 * n
  unfolding pointer_moves
  pointer_count = starts_count (n + 1)
