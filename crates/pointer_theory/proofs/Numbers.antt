-- The numbers of the best strip compare as the bests do, 2^64 - 1 being "no setting". Assumes nothing but what each law states.
use Rattle.std.specs.Prelude.{ℕ, ◌+◌, ◌-◌, ◌^◌, ◌≤◌, ◌<◌, ◌≡◌, List, length}
use Rattle.std.proofs.Math.Path.{refl}
use Rattle.std.proofs.Math.Bool.{true, false}
use Rattle.std.proofs.Common.{arith}
use borrow.Author.Tests.{le-leb, lt-leb}
use Rattle.laws.specs.Cost.{Cost, none, some, leq}
use Rattle.paper.specs.declared.PageLimits.{PageLimits}
use Rattle.paper.specs.Index as Index
use Rattle.paper.specs.Allowed.{IndexPassed}
use Rattle.paper.specs.Strips.{best_entry}
use Rattle.paper_theory.specs.Bound.{index_bound}

module _ (l : PageLimits) (ws : List ℕ) (passed : IndexPassed l ws) where
  small : (k v : ℕ) → k ≤ length ws + 1 → Index.best l ws k ≡ some v → v < 2 ^ 64 - 1
  small k v h e = omega (arith, index_bound l ws passed.lengths passed.few k v h e)

  -- "best k > best i"
  pub best_larger : (k i : ℕ) → k ≤ length ws + 1 → best_entry (Index.best l ws i) < best_entry (Index.best l ws k) →
      leq (Index.best l ws k) (Index.best l ws i) ≡ false
  unfolding best_entry
  best_larger k i h lt = go (Index.best l ws k) (Index.best l ws i) refl lt
    where
      go : (a b : Cost) → Index.best l ws k ≡ a → best_entry b < best_entry a → leq a b ≡ false
      go none none e lt = absurd (omega arith)
      go (some m) none e lt = absurd (omega (arith, small k m h e))
      go none (some n) e lt = refl
      go (some m) (some n) e lt = lt-leb m n lt

  pub best_not_larger : (k i : ℕ) → i ≤ length ws + 1 → best_entry (Index.best l ws k) ≤ best_entry (Index.best l ws i) →
      leq (Index.best l ws k) (Index.best l ws i) ≡ true
  unfolding best_entry
  best_not_larger k i h le = go (Index.best l ws k) (Index.best l ws i) refl le
    where
      go : (a b : Cost) → Index.best l ws i ≡ b → best_entry a ≤ best_entry b → leq a b ≡ true
      go a none e le = refl
      go none (some n) e le = absurd (omega (arith, small i n h e))
      go (some m) (some n) e le = le-leb m n le

  -- the entry of an index that has no setting
  pub best_none : (k : ℕ) → k ≤ length ws + 1 → 2 ^ 64 - 1 ≤ best_entry (Index.best l ws k) → Index.best l ws k ≡ none
  unfolding best_entry
  best_none k h le = go (Index.best l ws k) refl le
    where
      go : (a : Cost) → Index.best l ws k ≡ a → 2 ^ 64 - 1 ≤ best_entry a → a ≡ none
      go none e le = refl
      go (some v) e le = absurd (omega (arith, small k v h e))
