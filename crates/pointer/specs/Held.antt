-- The bests that the best strip of an index holds. Assumes nothing but what each law states.
use Rattle.std.specs.Prelude.{ℕ, ◌+◌, ◌≤◌, ◌≡◌, List, length, get_or, set}
use Rattle.std.proofs.Common.{ap, sym, ◌∙◌, ⊎_elim, arith}
use Rattle.laws.specs.Number.{split}
use Rattle.paper.specs.declared.PageLimits.{PageLimits}
use Rattle.paper.specs.Allowed.{IndexPassed}
use Rattle.paper.specs.Index as Index
use Rattle.paper.specs.Strips.{best_entry}
use Rattle.pointer_theory.proofs.Ready.{best_last}
use Rattle.strips.specs.Filling.{Entered, entered_more}

-- the entry of index k
abbrev pub best_at : PageLimits → List ℕ → ℕ → ℕ
best_at l ws k = best_entry (Index.best l ws k)

-- the best strip holds the bests of the indices from i on
pub record PageBests (l : PageLimits) (ws B : List ℕ) (i : ℕ) : Type 0 where
  pub passed : IndexPassed l ws
  pub entered : Entered (best_at l ws) 0 (length ws) i B

-- "The best of n+1 is 0"
pub best_end : (l : PageLimits) (ws : List ℕ) → best_at l ws (length ws + 1) ≡ 0
unfolding best_entry
best_end l ws = ap best_entry (best_last l ws)

module _ {l : PageLimits} {ws B : List ℕ} {i : ℕ} (b : PageBests l ws B i) where
  pub bests_size : length B ≡ length ws + 2
  bests_size = omega (arith, b.entered.size)

  pub bests_at : (k : ℕ) → i ≤ k → k ≤ length ws + 1 → get_or B k 0 ≡ best_at l ws k
  bests_at k low high =
      ⊎_elim
      (λ h. b.entered.each k k (omega arith) low h)
      (λ h. let e : k ≡ length ws + 1 = omega arith in b.entered.last k (omega arith) ∙ sym (ap (best_at l ws) e ∙ best_end l ws))
      (split k (length ws))

  -- the best of one start more is entered
  pub bests_more : (k : ℕ) (C : List ℕ) → k + 1 ≡ i → k ≤ length ws → C ≡ set B k (best_at l ws k) → PageBests l ws C k
  bests_more k C next low e = record { passed = b.passed; entered = entered_more b.entered k k C next low (omega arith) e }
