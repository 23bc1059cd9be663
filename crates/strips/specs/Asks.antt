-- What the functions of this crate ask of their callers. Assumes nothing.
use Rattle.std.specs.Prelude.{ℕ, ◌+◌, ◌≤◌, ◌<◌, ◌≡◌, List, T, length}
use Rattle.laws.specs.Number.{all}
use Rattle.laws.specs.Strip.{over}
use Rattle.paper.specs.declared.Move.{Move}
use Rattle.paper.specs.Allowed.{length_holds}
use Rattle.strips.specs.Chain.{LeadsOn}

-- lengths that are allowed, by whatever space, and room for their sums
pub record SumsAsk (ws s : List ℕ) : Type 0 where
  pub few : length ws ≤ 4096
  pub space : ℕ
  pub allowed : T (all (length_holds space) ws)
  pub room : length ws < length s

-- a place in the strip, and an index of a text
pub record MoveAsk (moves : List ℕ) (at : ℕ) (m : Move) : Type 0 where
  pub place : at < length moves
  pub index : m.index ≤ 4097

-- nexts that lead from `at` past n, and room for the starts on the way
pub record FollowAsk (N : List ℕ) (o n at : ℕ) (s : List ℕ) : Type 0 where
  pub leads : LeadsOn N o n at
  pub held : n < length N + o
  pub few : n ≤ 4096
  pub room : n + 1 ≤ at + length s

-- the starts found stand at the front of the strip, and are counted
pub record Followed (found : List ℕ) (s₀ s : List ℕ) (count : ℕ) : Type 0 where
  pub is : s ≡ over found s₀
  pub counted : count ≡ length found
