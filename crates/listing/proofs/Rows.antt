-- The rows that stand first, and the rows of the starts. Assumes nothing but what each law states.
use Prim.Native.Nat.{ℕ, zero, suc, ◌+◌, ◌-◌, ◌≤◌, ◌<◌}
use mathlib.Core.Path.{◌≡◌, ap}
use mathlib.Core.List.{List, [], ◌∷◌, ◌++◌}
use native.Mathlib.Numerals.{add-one}
use native.Mathlib.Omega.{arith}
use lib.ListN.{length, get_or, drop, length-append}
use lib.Seq.{get_or-drop}
use Rattle.paper.specs.declared.Limits.{Limits}
use Rattle.paper.specs.declared.PageLimits.{PageLimits}
use Rattle.paper.specs.Paragraph.{end}
use Rattle.paper.specs.Index.{item}
use Rattle.job.specs.declared.Asked.{Asked}
use Rattle.job.specs.declared.Asked.TheVariants.{Paragraph, Index}
use Rattle.rows.specs.Rows.{digits, row}
use Rattle.rows.specs.Puts.{Fits, Puts, Along, along_fits, along_more}
use Rattle.listing.specs.declared.starts.LineRow.{LineRow}
use Rattle.listing.specs.Listing.{headed, values, start_row, start_rows}
use Rattle.listing.specs.Summed.{Summed}
use Rattle.listing.specs.Asks.{LineAsks, LineIs, SegmentAsks, SegmentsAsk}

-- ---- the rows that stand first
pub headed_fits : {at : ℕ} (kind : List ℕ) (n : ℕ) (cost : List ℕ) (total : ℕ) (starts : List ℕ) (count : ℕ) →
    Fits at (headed kind n cost total starts count ∷ []) →
    Fits at (row kind (n ∷ []) ∷ row cost (total ∷ []) ∷ row starts (count ∷ []) ∷ [])
headed_fits kind n cost total starts count f =
    omega (
      arith,
      length-append (row kind (n ∷ [])) (row cost (total ∷ []) ++ row starts (count ∷ [])),
      length-append (row cost (total ∷ [])) (row starts (count ∷ [])),
    )

-- ---- the row of a start, of either kind
module _ {asked : Asked} {ws : List ℕ} {i j at : ℕ} (a : SegmentAsks asked ws i j at) where
  pub line_asks : {S : List ℕ} → Summed asked ws S → {l : Limits} → asked ≡ Paragraph l → LineAsks l ws S i j
  line_asks t e = record { text = rw e at t; segment = rw e at a.segment }

  pub line_row : {l : Limits} → asked ≡ Paragraph l → {m : LineRow} → LineIs l ws i j m →
      start_row asked ws i j ≡ row (digits i) (m.length ∷ m.cost ∷ [])
  unfolding values
  line_row e m = rw (e, m.length, m.cost)

  pub boundary_row : {l : PageLimits} → asked ≡ Index l → {x : ℕ} → x ≡ get_or ws (i - 1) 0 →
      start_row asked ws i j ≡ row (digits i) (x ∷ [])
  unfolding values item
  boundary_row e f = rw (e, f) (ap (λ (y : ℕ). row (digits i) (y ∷ [])) (own i a.segment.first))
    where
      own : (i : ℕ) → 1 ≤ i → get_or (0 ∷ ws) i 0 ≡ get_or ws (i - 1) 0
      own zero h = absurd (omega arith)
      own (suc k) h = ap (λ (m : ℕ). get_or ws m 0) (omega arith)

-- ---- a turn: the row of the k-th start, which is i, with its next, j
module _ {asked : Asked} {ws is : List ℕ} {at : ℕ} (a : SegmentsAsk asked ws is at)
    {s : List ℕ} {k next : ℕ} {t : List ℕ} (g : Along (start_rows asked ws) is k at s next t) (more : k < length is)
    {i j : ℕ} (from : i ≡ get_or is k 0) (to : j ≡ get_or is (k + 1) (end ws)) where
  one : start_rows asked ws (get_or is k 0 ∷ drop (k + 1) is) ≡ start_row asked ws i j ++ start_rows asked ws (drop (k + 1) is)
  unfolding start_rows
  one =
      let z : k + 1 + 0 ≡ k + 1 = omega arith in
      rw (get_or-drop (k + 1) is 0 (end ws), z, from, to)

  pub turn_asks : SegmentAsks asked ws i j next
  turn_asks = record { segment = rw (from, to, add-one k) (a.starts.each k more); room = along_fits g more one a.room }

  pub turn_more : {after : ℕ} {u : List ℕ} → Puts (start_row asked ws i j) next t after u →
      Along (start_rows asked ws) is (k + 1) at s after u
  turn_more = along_more g more one
