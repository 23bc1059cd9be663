-- One turn of the loop that writes the sums. Assumes nothing.
use Rattle.std.proofs.Common.{◌≡◌, ap, sym, ◌∙◌, ℕ, ◌+◌, ◌*◌, ◌≤◌, ◌<◌, List, [], ◌∷◌, length, get_or, set, T, add-one, arith}
use Rattle.laws.specs.Number.{all}
use Rattle.laws.specs.Strip.{over, over_set}
use Rattle.paper.specs.Allowed.{length_holds}
use Rattle.paper_theory.specs.Scale.{up_to, up_to_zero, up_to_suc, up_to_bound}
use Rattle.paper.specs.Strips.{entries, sums}
use Rattle.paper_theory.specs.Entries.{length_entries, entries_more}

-- k lengths are summed
pub record Filling (ws s₀ s : List ℕ) (k total : ℕ) : Type 0 where
  pub is : s ≡ over (entries (up_to ws) 0 (k + 1)) s₀
  pub sum : total ≡ up_to ws k

-- the first entry written, the loop begins
pub filling_first : (ws s : List ℕ) → 0 < length s → Filling ws s (set s 0 0) 0 0
unfolding over entries
filling_first ws [] h = absurd (omega arith)
filling_first ws (x ∷ s) h = record { is = rw (up_to_zero ws); sum = sym (up_to_zero ws) }

module _ {ws s₀ s : List ℕ} {k total : ℕ} (f : Filling ws s₀ s k total) where
  module _ (more : k < length ws) where
    total_next : total + get_or ws k 0 ≡ up_to ws (k + 1)
    total_next = rw (add-one k) (omega (arith, f.sum, up_to_suc ws k more))

    pub filling_more : length ws < length s₀ → Filling ws s₀ (set s (k + 1) (total + get_or ws k 0)) (k + 1) (total + get_or ws k 0)
    filling_more room =
        let n : length (entries (up_to ws) 0 (k + 1)) ≡ k + 1 = length_entries (up_to ws) 0 (k + 1) in
        let z : 0 + (k + 1) ≡ k + 1 = omega arith in
        record {
          is = ap (λ (l : List ℕ). set l (k + 1) (total + get_or ws k 0)) f.is
              ∙ over_set (entries (up_to ws) 0 (k + 1)) s₀ (total + get_or ws k 0) (k + 1) (sym n) (omega arith)
              ∙ ap (λ (l : List ℕ). over l s₀) (rw (total_next, add-one (k + 1), entries_more (up_to ws) 0 (k + 1), z));
          sum = total_next;
        }

    pub filling_fits : (space : ℕ) → T (all (length_holds space) ws) → length ws ≤ 4096 → total + get_or ws k 0 ≤ 4096 * 4095
    filling_fits space allowed few = omega (arith, total_next, up_to_bound space ws allowed (k + 1) (omega arith))

  -- the loop ends: the sums stand at the front of the strip
  pub filling_done : k ≡ length ws → s ≡ over (sums ws) s₀
  unfolding sums up_to
  filling_done e = rw e at f.is
