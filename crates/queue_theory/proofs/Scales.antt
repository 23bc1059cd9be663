-- Lines that are differences of two rising scales, compared. Assumes nothing but what each law states.
use Rattle.std.specs.Prelude.{ℕ, ◌+◌, ◌≤◌, ◌<◌, ◌≡◌}
use Rattle.std.proofs.Common.{⊎_elim, arith}
use Rattle.laws.specs.Number.{split}
use Rattle.paper.specs.QueueRules.{Text}
use Rattle.queue_theory.specs.Scales.{Scaled}

module _ {t : Text} (s : Scaled t) where
  -- a later break ends no earlier
  pub ends_le : (j k : ℕ) → 1 ≤ j → j ≤ k → k ≤ t.lines.end → s.E j ≤ s.E k
  ends_le j k h jk ke = omega (arith, s.apart j k h jk ke)

  -- a later break makes no shorter line
  pub line_longer : (i j k : ℕ) → 1 ≤ i → i ≤ j → j ≤ k → k ≤ t.lines.end → t.lines.line i j ≤ t.lines.line i k
  line_longer i j k h ij jk ke =
      ⊎_elim
      (λ g. let e : j ≡ i = omega arith in rw (e, s.empty i h) (omega arith))
      (λ g. omega (arith, s.line i j h g (omega arith), s.line i k h (omega arith) ke, ends_le j k (omega arith) jk ke))
      (split j i)

  -- a later start makes no longer line
  pub line_shorter : (i j k : ℕ) → 1 ≤ i → i ≤ j → j ≤ k → k ≤ t.lines.end → t.lines.line j k ≤ t.lines.line i k
  line_shorter i j k h ij jk ke =
      ⊎_elim
      (λ g. let e : k ≡ j = omega arith in rw (e, s.empty j (omega arith)) (omega arith))
      (λ g. omega (arith, s.line i k h (omega arith) ke, s.line j k (omega arith) g ke, s.starts_rise i j h ij (omega arith)))
      (split k j)

  -- a line, and what lies between its break and a later one
  pub line_joins : (i j k : ℕ) → 1 ≤ i → i < j → j ≤ k → k ≤ t.lines.end → t.lines.line i j + t.apart j k ≡ t.lines.line i k
  line_joins i j k h ij jk ke =
      omega (arith, s.line i j h ij (omega arith), s.line i k h (omega arith) ke, s.apart j k (omega arith) jk ke)

  -- a line with a length has a word
  pub line_some : (i j : ℕ) → 1 ≤ i → i ≤ j → 1 ≤ t.lines.line i j → i < j
  line_some i j h ij some =
      ⊎_elim
      (λ g. let e : j ≡ i = omega arith in absurd (omega (arith, s.empty i h, rw e at some)))
      (λ g. g)
      (split j i)

  -- the break of a shorter line comes first
  pub line_before : (i j k : ℕ) → 1 ≤ i → i ≤ k → j ≤ t.lines.end → t.lines.line i j < t.lines.line i k → i ≤ j → j < k
  line_before i j k h ik je lt ij =
      ⊎_elim (λ g. absurd (omega (arith, line_longer i k j h ik g je))) (λ g. g) (split k j)
