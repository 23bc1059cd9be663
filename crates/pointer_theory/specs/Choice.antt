-- What demand 3 says of a start of the index, where the pointer has come to an index.
use Prim.Native.Nat.{ℕ, ◌+◌}
use Rattle.std.specs.Prelude.{◌≡◌, true, false, List}
use Rattle.laws.specs.Cost.{none, has_cost, before}
use Rattle.paper.specs.declared.PageLimits.{PageLimits}
use Rattle.paper.specs.Index as Index
use Rattle.paper.specs.Index.{item}
use Rattle.paper.specs.PointerRules.{pages_of, chooser}

-- what demand 3 says of start i, where the pointer comes to r
pub record Choosing (l : PageLimits) (ws : List ℕ) (i r : ℕ) : Type 0 where
  pub exactly : has_cost (Index.best l ws i) ≡ chooser (pages_of l ws) i r
  pub chosen : chooser (pages_of l ws) i r ≡ true → r ≡ Index.chosen_next l ws i
  pub gives : chooser (pages_of l ws) i r ≡ true → Index.best l ws i ≡ before ◌+◌ (item ws i) (Index.best l ws r)
  pub nothing : chooser (pages_of l ws) i r ≡ false → Index.best l ws i ≡ none
