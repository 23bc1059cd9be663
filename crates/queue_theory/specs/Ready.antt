-- What stands before each start and within it: the queue falls, every member is within the measure and has a setting, and the next
-- candidate is below them all.
use Prim.Native.Nat.{ℕ, ◌≤◌, ◌<◌}
use mathlib.Core.List.{List}
use Rattle.laws.specs.Cost.{Has}
use Rattle.laws.specs.Members.{Every, Falls}
use Rattle.paper.specs.QueueRules.{Text, Standing}

-- a break k that has a setting, and whose line from start i is within the measure
pub record Measured (t : Text) (i k : ℕ) : Type 0 where
  pub above : i < k
  pub within : k ≤ t.lines.end
  pub has : Has (t.best k)
  pub low : t.lines.lmin ≤ t.lines.line i k
  pub high : t.lines.line i k ≤ t.lines.lmax

-- within start i, after rule 1: the queue q, listed from front to rear, and the next candidate c
pub record Held (t : Text) (i c : ℕ) (q : List ℕ) : Type 0 where
  pub near : i ≤ c
  pub within : c ≤ t.lines.end
  pub falls : Falls q
  pub below : Every (λ (k : ℕ). c < k) q
  pub live : Every (Measured t i) q

-- after start i: its candidate is too near for a line
pub record Stood (t : Text) (i : ℕ) (s : Standing) : Type 0 where
  pub held : Held t i s.candidate s.queue
  pub short : t.lines.line i s.candidate < t.lines.lmin
