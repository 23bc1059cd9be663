-- What the strips of a paragraph under way hold: the sums of its words, and the bests of the starts that are done. Assumes nothing but what
-- each law states.
use Rattle.std.proofs.Common.{◌≡◌, refl, ap, sym, ◌∙◌, ◌⊎◌, inl, inr, ⊎_elim, ℕ, ◌+◌, ◌-◌, ◌^◌, ◌≤◌, ◌<◌, List, length, get_or, arith}
use Rattle.laws.specs.Number.{split}
use Rattle.laws.specs.Cost.{Cost, none, some}
use Rattle.paper.specs.declared.Limits.{Limits}
use Rattle.paper.specs.Allowed.{limits_hold}
use Rattle.paper.specs.Paragraph.{end, best, lines}
use Rattle.paper.specs.Strips.{best_entry}
use Rattle.paper_theory.specs.Bound.{paragraph_bound}
use Rattle.paper_theory.specs.Cheapest.{best_last}
use Rattle.paper_theory.specs.Ranges.{ranges}
use Rattle.paper_theory.specs.Scale.{up_to_bound, length_scale}
use Rattle.strips.specs.Words.{words_of, Holds, holds_length, holds_entry, holds_rising}
use Rattle.queue.specs.Asks.{Known}
use Rattle.breaks.specs.Asks.{best_at, rest_at, Summed, Done}

pub summed : {l : Limits} {S : List ℕ} → Holds (limits_hold l) l.space S → Summed l S
summed {l} h = record { holds = h; ranges = ranges l h.passed.limits; size = holds_length h }

module _ {l : Limits} {S : List ℕ} (s : Summed l S) where
  -- the remaining words from a start, on the strip
  pub held_rest : (k : ℕ) → 1 ≤ k → k ≤ length (words_of S) →
      get_or S (k - 1) 0 + l.space + rest_at l S k ≡ get_or S (length S - 1) 0
  held_rest k first early =
      let e : length S - 1 ≡ length (words_of S) = omega arith in
      let g : end (words_of S) - 1 ≡ length (words_of S) = omega arith in
      let h = rw g at (length_scale l (words_of S) s.holds.passed.lengths k (end (words_of S)) first (omega arith) (omega arith)) in
      rw e (omega (arith, h, holds_entry s.holds (length (words_of S)) (omega arith), holds_entry s.holds (k - 1) (omega arith)))

  -- the sums rise
  pub held_rises : (a b : ℕ) → a ≤ b → b ≤ length (words_of S) → get_or S a 0 ≤ get_or S b 0
  held_rises a b order within = holds_rising s.holds a b order (omega arith)

  -- a line may begin at every start
  pub held_place : (k : ℕ) → 1 ≤ k → k ≤ length S → get_or S (k - 1) 0 + l.space + l.lmax ≤ 2 ^ 25
  held_place k low high =
      omega (
        arith,
        holds_entry s.holds (k - 1) (omega arith),
        up_to_bound l.space (words_of S) s.holds.passed.lengths (k - 1) (omega arith),
      )

-- a best is none, or a number that fits
known_entry : (c : Cost) → ((v : ℕ) → c ≡ some v → v < 2 ^ 40) → (best_entry c ≡ 2 ^ 64 - 1) ⊎ (best_entry c < 2 ^ 41)
unfolding best_entry
known_entry none fits = inl refl
known_entry (some v) fits = inr (omega (arith, fits v refl))

module _ {l : Limits} {S B : List ℕ} {i : ℕ} (d : Done l S B i) where
  pub held_number : (k v : ℕ) → 1 ≤ k → k ≤ length S → best l (words_of S) k ≡ some v → v < 2 ^ 40
  held_number k v low high e = paragraph_bound l d.sums.ranges (words_of S) d.sums.holds.passed.few k v low (omega arith) e

  pub held_best : (k : ℕ) → 1 ≤ i → i < k → k ≤ length S → get_or B (k - 1) 0 ≡ best_at l (words_of S) k
  unfolding best lines best_entry
  held_best k first above within =
      ⊎_elim
      (λ le. d.bests.each k (k - 1) (omega arith) (omega arith) le)
      (λ gt. let e : k ≡ length (words_of S) + 1 = omega arith in
      d.bests.last (k - 1) (omega arith) ∙ sym (rw e (ap best_entry (best_last (lines l (words_of S))))))
      (split k (length (words_of S)))

  pub held_known : 1 ≤ i → Known B i
  held_known first k above within =
      rw (held_best k first above (omega arith))
      (known_entry (best l (words_of S) k) (λ v e. held_number k v (omega arith) (omega arith) e))
