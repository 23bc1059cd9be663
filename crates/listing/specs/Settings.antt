-- What a setting that is given and its starts have.
use Rattle.std.specs.Prelude.{ℕ, ◌*◌, ◌^◌, ◌≤◌, ◌<◌, List, length}
use Rattle.job.specs.declared.Asked.{Asked}
use Rattle.listing.specs.Listing.{move_count}
use Rattle.listing.specs.Asks.{Segments}

-- the rows that are listed are those of starts, no more of them than words; and how large the numbers are
pub record SetIs (asked : Asked) (ws is : List ℕ) (total : ℕ) : Type 0 where
  pub all : Segments asked ws is
  pub few : length is ≤ length ws
  pub small : total < 2 ^ 40
  pub moves : move_count asked ws ≤ 2 * length ws
