-- Rules 1 and 3 and both pops take members off one end of the queue: their moves name what they take, and what stands is the rest.
use Rattle.std.specs.Prelude.{ℕ, ◌≡◌}
use mathlib.Core.List.{List, ◌++◌, map}
use Rattle.paper.specs.declared.Kind.{Kind}
use Rattle.paper.specs.Moves.{Taken, move}

-- a rule took `gone` off the end at which q is listed, one move each
pub record Leaves (kind : Kind) (q : List ℕ) (r : Taken (List ℕ)) : Type 0 where
  pub gone : List ℕ
  pub named : r.moves ≡ map (move kind) gone
  pub rest : q ≡ gone ++ r.stands
