-- Moves taken, in the strip that has those taken before them. Assumes nothing.
use Rattle.std.specs.Prelude.{◌+◌, ◌≤◌, ◌<◌, ◌≡◌, length, set}
use Rattle.paper.specs.declared.Move.{Move}
use Rattle.paper.specs.Moves.{Taken, code}
use Rattle.strips.specs.Running.{Ran}
use Rattle.pointer.specs.declared.moves.Moves.{Moves}

-- room for a move
pub record PutAsk (m : Moves) (mv : Move) : Type 0 where
  pub place : m.taken < length m.strip.now
  pub index : mv.index ≤ 4097

-- one move more is taken, in the same strip
pub record Put (m₀ : Moves) (mv : Move) (m : Moves) : Type 0 where
  pub is : m.strip.now ≡ set m₀.strip.now m₀.taken (code mv)
  pub count : m.taken ≡ m₀.taken + 1
  pub same : m.strip.ghost_name ≡ m₀.strip.ghost_name

-- room for a rule's moves
abbrev pub HasRoom : {A : Type 0} → Taken A → Moves → Type 0
HasRoom rule m = m.taken + length rule.moves ≤ length m.strip.now

-- a rule's moves are taken, in the same strip, and a stands
pub record Took {A : Type 0} (rule : Taken A) (m₀ m : Moves) (a : A) : Type 0 where
  pub ran : Ran rule m₀.taken m₀.strip.now m.strip.now m.taken a
  pub same : m.strip.ghost_name ≡ m₀.strip.ghost_name
