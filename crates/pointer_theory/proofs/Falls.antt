-- The left entries that stand before a start are smaller than their index. Assumes nothing but what it states.
use Prim.Native.Nat.{ℕ, ◌+◌, ◌<◌}
use Rattle.std.specs.Prelude.{List}
use Rattle.std.proofs.Common.{⊎_elim}
use native.Mathlib.Omega.{arith}
use Rattle.std.proofs.Math.ListN.{length, get_or-eq_default}
use Rattle.laws.specs.Number.{split}
use Rattle.paper.specs.declared.PageLimits.{PageLimits}
use Rattle.paper.specs.PointerRules.{entry_at, Pointing}
use Rattle.pointer_theory.specs.Ready.{PointerReady}

module _ {l : PageLimits} {ws : List ℕ} {i : ℕ} {s : Pointing} (ready : PointerReady l ws i s) where
  -- a left entry is smaller than its index
  pub ready_falls : (k : ℕ) → 0 < entry_at s.left k → entry_at s.left k < k
  ready_falls k h =
      ⊎_elim
      (λ g. absurd (omega (arith, ready.entries.left_open k g)))
      (λ g. ⊎_elim
      (λ f. (ready.entries.lefts k g f).below)
      (λ f. absurd (omega (arith, get_or-eq_default s.left 0 {n = k} (omega (arith, ready.entries.left_length)))))
      (split k (length ws + 1)))
      (split k i)
