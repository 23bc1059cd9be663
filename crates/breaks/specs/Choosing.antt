-- What a start takes, on numbers, and how it is written. Assumes nothing.
use Rattle.std.specs.Prelude.{Option, Some, None, ℕ, ◌+◌, ◌-◌, ◌^◌, ◌≤◌, ◌<◌, ◌≡◌, Bool, List, leb, ltb, length, set}
use Rattle.laws.specs.Number.{if}
use Rattle.laws.specs.Part.{listed}
use Rattle.paper.specs.declared.Limits.{Limits}
use Rattle.paper.specs.QueueRules.{front_next}
use Rattle.paper_theory.specs.Ranges.{Ranges}
use Rattle.queue.specs.declared.Queue.{Queue}
use Rattle.queue.specs.Asks.{stood}
use Rattle.breaks.specs.declared.Chosen.{Chosen}

-- words that sum to so much are, as one line, shorter than the least last length
abbrev pub below_least : Limits → ℕ → Bool
below_least l rest = ltb rest (l.lastmin + l.space)

-- the entries of what a start takes
abbrev pub cost_entry : Option Chosen → ℕ
cost_entry (Some c) = c.cost
cost_entry None = 2 ^ 64 - 1

abbrev pub next_entry : Option Chosen → ℕ
next_entry (Some c) = c.next
next_entry None = 0

-- where the rest as one line is at most lopt
pub record EndTaken (l : Limits) (rest end : ℕ) (r : Option Chosen) : Type 0 where
  pub cost : cost_entry r ≡ if (below_least l rest) (2 ^ 64 - 1) 0
  pub next : next_entry r ≡ if (below_least l rest) 0 end

-- The words before the start have that sum, all words the sum e, and a line from the start is at most lopt where it ends no later than the
-- goal.
abbrev pub taken_at : {A : Type 0} → Limits → ℕ → ℕ → ℕ → A → A → A → A
taken_at l sum goal e none end front = if (leb e goal) (if (below_least l (e - sum)) none end) front

-- the cost is none exactly where nobody stands
pub record ChooseAsks (l : Limits) (sum e : ℕ) (Q : List ℕ) (q : Queue) : Type 0 where
  pub ranges : Ranges l
  pub before : sum ≤ e
  pub standing : q.end ≤ length Q
  pub short : length Q ≤ 4096
  pub nobody : q.end ≤ q.front → q.cost ≡ 2 ^ 64 - 1
  pub number : q.front < q.end → q.cost < 2 ^ 64 - 1

pub record Chooses (l : Limits) (sum goal e : ℕ) (Q : List ℕ) (q : Queue) (r : Option Chosen) : Type 0 where
  pub cost : cost_entry r ≡ taken_at l sum goal e (2 ^ 64 - 1) 0 q.cost
  pub next : next_entry r ≡ taken_at l sum goal e 0 (length Q + 1) (front_next (listed (stood Q q)))

pub record SettleAsks (i : ℕ) (B N : List ℕ) : Type 0 where
  pub first : 1 ≤ i
  pub best : i ≤ length B
  pub next : i ≤ length N

pub record Settles (i : ℕ) (c : Option Chosen) (B N B' N' : List ℕ) : Type 0 where
  pub best : B' ≡ set B (i - 1) (cost_entry c)
  pub next : N' ≡ set N (i - 1) (next_entry c)
