-- A text with its sums. Assumes nothing.
use Rattle.std.specs.Prelude.{ℕ, ◌≡◌, List}
use Rattle.paper.specs.Allowed.{Passed}
use Rattle.paper.specs.Strips.{sums}
use Rattle.job.specs.declared.Asked.{Asked}
use Rattle.listing.specs.Listing.{holds, space_in}

-- a text that refusals 1 to 4 pass, with its sums
pub record Summed (asked : Asked) (ws S : List ℕ) : Type 0 where
  pub passed : Passed (holds asked) (space_in asked) ws
  pub sums : S ≡ sums ws
