-- What the functions of this crate ask and tell. Assumes nothing.
use Rattle.std.specs.Prelude.{ℕ, suc, ◌+◌, ◌≤◌, ◌<◌, ◌≡◌, List, [], ◌∷◌, T, length, get_or, take}
use Rattle.laws.specs.Setting.{Problem}
use Rattle.paper.specs.declared.Limits.{Limits}
use Rattle.std.specs.Prelude.{Ok, Err}
use Rattle.paper.specs.declared.Unset.TheVariants.{None, Refused}
use Rattle.paper.specs.Told.{Answer}
use Rattle.paper.specs.Paragraph.{end, line_length, charge, paragraph}
use Rattle.paper.specs.Index.{index}
use Rattle.job.specs.declared.Asked.{Asked}
use Rattle.job.specs.declared.Asked.TheVariants.{Paragraph as AskedParagraph, Index as AskedIndex}
use Rattle.rows.specs.Puts.{Fits}
use Rattle.listing.specs.Summed.{Summed}
use Rattle.listing.specs.declared.starts.LineRow.{LineRow}
use Rattle.listing.specs.Listing.{refused, refusal, head, start_row, start_rows, moves_row, set_rows, asked_listing}

-- ---- starts of a setting
unfoldable pub problem : Asked → List ℕ → Problem
problem (AskedParagraph l) ws = paragraph l ws
problem (AskedIndex l) ws = index l ws

-- from i up to j
pub record Segment (asked : Asked) (ws : List ℕ) (i j : ℕ) : Type 0 where
  pub first : 1 ≤ i
  pub order : i < j
  pub within : j ≤ end ws
  pub fits : T ((problem asked ws).fits i j)

pub record LineAsks (l : Limits) (ws S : List ℕ) (i j : ℕ) : Type 0 where
  pub text : Summed (AskedParagraph l) ws S
  pub segment : Segment (AskedParagraph l) ws i j

pub record LineIs (l : Limits) (ws : List ℕ) (i j : ℕ) (m : LineRow) : Type 0 where
  pub length : m.length ≡ line_length l ws i j
  pub cost : m.cost ≡ charge l ws i j

pub record SegmentAsks (asked : Asked) (ws : List ℕ) (i j at : ℕ) : Type 0 where
  pub segment : Segment asked ws i j
  pub room : Fits at (start_row asked ws i j ∷ [])

-- each goes up to the next, the last one to the end
pub record Segments (asked : Asked) (ws is : List ℕ) : Type 0 where
  pub each : (k : ℕ) → k < length is → Segment asked ws (get_or is k 0) (get_or is (suc k) (end ws))

pub record SegmentsAsk (asked : Asked) (ws is : List ℕ) (at : ℕ) : Type 0 where
  pub starts : Segments asked ws is
  pub room : Fits at (start_rows asked ws is ∷ [])

-- ---- a setting
pub record RowsAsk (asked : Asked) (ws is : List ℕ) (total moves : ℕ) : Type 0 where
  pub starts : Segments asked ws is
  pub room : Fits 0 (head asked (length ws) total (length is) ∷ start_rows asked ws is ∷ moves_row moves ∷ [])

-- the strips that are listed, at the part used
pub record IsSet (asked : Asked) (ws S is : List ℕ) (total lines moves : ℕ) : Type 0 where
  pub sums_room : length ws + 1 ≤ length S
  pub starts_room : lines ≤ length is
  pub text : Summed asked ws (take (length ws + 1) S)
  pub asks : RowsAsk asked ws (take lines is) total moves
  pub listing : asked_listing asked ws ≡ set_rows asked ws (take lines is) total moves

-- what each answer comes to
abbrev pub Answered : Asked → List ℕ → List ℕ → List ℕ → Answer → Type 0
Answered asked ws S is (Ok set) = IsSet asked ws S is set.total set.lines set.moves
Answered asked ws S is (Err (None moves)) = asked_listing asked ws ≡ refused 6 0
Answered asked ws S is (Err (Refused r)) = asked_listing asked ws ≡ refusal r
