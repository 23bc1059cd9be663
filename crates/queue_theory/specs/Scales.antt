-- A text whose lines are differences of two rising scales. Of the words the laws of this crate use nothing else, so that a space or a
-- hyphen changes only the scales.
use Rattle.std.specs.Prelude.{ℕ, ◌+◌, ◌*◌, ◌≤◌, ◌<◌, ◌≡◌}
use Rattle.laws.specs.Cost.{before}
use Rattle.laws.specs.Square.{sqd}
use Rattle.paper.specs.Lines as Lines
use Rattle.paper.specs.QueueRules.{Text}

-- T i is where a line from start i begins, and E j where a line that ends before j ends.
pub record Scaled (t : Text) : Type 0 where
  pub T : ℕ → ℕ
  pub E : ℕ → ℕ
  pub line : (i j : ℕ) → 1 ≤ i → i < j → j ≤ t.lines.end → T i + t.lines.line i j ≡ E j
  pub empty : (i : ℕ) → 1 ≤ i → t.lines.line i i ≡ 0
  pub apart : (j k : ℕ) → 1 ≤ j → j ≤ k → k ≤ t.lines.end → E j + t.apart j k ≡ E k
  pub ends_rise : (j k : ℕ) → 1 ≤ j → j < k → k ≤ t.lines.end → E j < E k
  pub starts_rise : (i j : ℕ) → 1 ≤ i → i ≤ j → j ≤ t.lines.end → T i ≤ T j
  pub formula : (x : ℕ) → t.lines.lmin ≤ x → x ≤ t.lines.lmax → t.lines.penalty x ≡ t.a * sqd x t.lines.lopt
  pub positive : 1 ≤ t.lines.lmin

-- The best that the rules read is that of the lines, with what the break is charged joined to it; and the limits stand in their order.
pub record Bested (t : Text) : Type 0 where
  pub joined : (j : ℕ) → 1 ≤ j → j ≤ t.lines.end → t.best j ≡ before ◌+◌ (t.lines.break j) (Lines.best t.lines j)
  pub lopt_low : t.lines.lmin ≤ t.lines.lopt
  pub lopt_high : t.lines.lopt ≤ t.lines.lmax
  pub last_low : t.lines.lastmin ≤ t.lines.lopt
