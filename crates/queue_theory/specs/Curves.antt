-- F on the two scales, of a break that has a setting.
use Rattle.std.specs.Prelude.{ℕ, ◌+◌, ◌≤◌}
use Rattle.laws.specs.Cost.{Has}
use Rattle.laws.specs.Bridge.{curve}
use Rattle.paper.specs.QueueRules.{Text, best_of}
use Rattle.queue_theory.specs.Scales.{Scaled}

-- a break that has a setting
pub record Settable (t : Text) (j : ℕ) : Type 0 where
  pub from : 1 ≤ j
  pub within : j ≤ t.lines.end
  pub has : Has (t.best j)

-- F(i, j) at position x, which is where start i begins
unfoldable pub G : {t : Text} → Scaled t → ℕ → ℕ → ℕ
G {t} s j x = curve t.a (best_of t j) (s.E j) (x + t.lines.lopt)
