-- 01, "Moves".
use Rattle.std.specs.Prelude.{ℕ, ◌+◌, ◌*◌, List, [], ◌∷◌, ◌++◌}
use Rattle.paper.specs.declared.Kind.{Kind}
use Rattle.paper.specs.declared.Kind.TheVariants.{Add, Pass, Drop, Pop, Step, Jump, Link}
use Rattle.paper.specs.declared.Move.{Move}

-- "Kinds: 1 Add, 2 Pass, 3 Drop, 4 Pop, 5 Step, 6 Jump, 7 Link."
unfoldable pub kind_number : Kind → ℕ
kind_number Add = 1
kind_number Pass = 2
kind_number Drop = 3
kind_number Pop = 4
kind_number Step = 5
kind_number Jump = 6
kind_number Link = 7

-- "In the strip it is 8·index + kind."
unfoldable pub code : Move → ℕ
code m = 8 * m.index + kind_number m.kind

-- "A move is a kind with the index it touches."
abbrev pub move : Kind → ℕ → Move
move kind index = record { kind = kind; index = index }

-- ---- what a rule gives: the moves taken, and what stands afterwards
pub record Taken (A : Type 0) : Type 0 where
  pub moves : List Move
  pub stands : A

-- no move
abbrev pub still : {A : Type 0} → A → Taken A
still a = record { moves = []; stands = a }

-- one move, then others
abbrev pub moved : {A : Type 0} → Move → Taken A → Taken A
moved m t = record { moves = m ∷ t.moves; stands = t.stands }

-- the moves of one rule, then those of the next on what stands: "written to the rest of the moves strip, after those of
-- earlier starts"
abbrev pub joined : {A B : Type 0} → Taken A → (A → Taken B) → Taken B
joined s f = let t = f s.stands in record { moves = s.moves ++ t.moves; stands = t.stands }
