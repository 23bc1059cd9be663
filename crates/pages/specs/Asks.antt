-- What the functions of the index engine ask of their callers, and what each leaves. Assumes nothing.
use Rattle.std.specs.Prelude.{ℕ, ◌+◌, ◌*◌, ◌≤◌, ◌≡◌, List, ◌∷◌, map, length}
use Rattle.laws.specs.Strip.{over}
use Rattle.paper.specs.declared.PageLimits.{PageLimits}
use Rattle.paper.specs.Told.{Answer}
use Rattle.paper.specs.Allowed.{page_limits_hold, IndexPassed}
use Rattle.paper.specs.Index as Index
use Rattle.paper.specs.Moves.{code}
use Rattle.paper.specs.PointerRules.{pointer_moves}
use Rattle.paper.specs.Strips.{entries, sums, left_entry, right_entry, IndexStrips, IndexOutcome, index_set}
use Rattle.strips.specs.Filling.{ended}
use Rattle.strips.specs.Words.{Holds}
use Rattle.pointer.specs.Held.{best_at}

-- ---- the strips that the starts write
pub record PointerStrips : Type 0 where
  pub best : List ℕ
  pub next : List ℕ
  pub left : List ℕ
  pub right : List ℕ
  pub moves : List ℕ

abbrev pub pointer_strips : List ℕ → List ℕ → List ℕ → List ℕ → List ℕ → PointerStrips
pointer_strips best next left right moves = record { best = best; next = next; left = left; right = right; moves = moves }

-- ---- the part used of each strip, as 01 says it
abbrev pub bests_of : PageLimits → List ℕ → List ℕ
bests_of l ws = entries (best_at l ws) 0 (length ws + 2)

abbrev pub nexts_of : PageLimits → List ℕ → List ℕ
nexts_of l ws = ended (Index.chosen_next l ws) 0 (length ws + 1)

abbrev pub lefts_of : PageLimits → List ℕ → List ℕ
lefts_of l ws = 0 ∷ entries (left_entry (Index.best l ws)) 1 (length ws + 1)

abbrev pub rights_of : PageLimits → List ℕ → List ℕ
rights_of l ws = 0 ∷ ended (right_entry (Index.best l ws) (length ws)) 1 (length ws)

-- ---- all starts
-- strips of just the entries used
pub record PageSized (S : List ℕ) (s : PointerStrips) : Type 0 where
  pub best : length s.best ≡ length S + 1
  pub next : length s.next ≡ length S + 1
  pub left : length s.left ≡ length S + 1
  pub right : length s.right ≡ length S + 1

-- the sums of a text, and room for the moves
pub record PageStartsAsk (l : PageLimits) (S : List ℕ) (s : PointerStrips) : Type 0 where
  pub held : Holds (page_limits_hold l) 0 S
  pub sized : PageSized S s
  pub moves : 2 * length S ≤ length s.moves + 2

-- each strip is the part used
pub record PageStarts (l : PageLimits) (ws m : List ℕ) (taken : ℕ) (t : PointerStrips) : Type 0 where
  pub best : t.best ≡ bests_of l ws
  pub next : t.next ≡ nexts_of l ws
  pub left : t.left ≡ lefts_of l ws
  pub right : t.right ≡ rights_of l ws
  pub moves : t.moves ≡ over (map code (pointer_moves l ws)) m
  pub count : taken ≡ length (pointer_moves l ws)

-- ---- the strips
-- a list that refusals 1 to 5 pass, but for the room of the boundaries
pub record PageFillAsk (l : PageLimits) (ws S : List ℕ) (s : PointerStrips) : Type 0 where
  pub passed : IndexPassed l ws
  pub sums : length ws + 1 ≤ length S
  pub best : length ws + 2 ≤ length s.best
  pub next : length ws + 2 ≤ length s.next
  pub left : length ws + 2 ≤ length s.left
  pub right : length ws + 2 ≤ length s.right
  pub moves : 2 * length ws ≤ length s.moves

-- each strip has the part used at its front, and its rest as it was
pub record PageFilled (l : PageLimits) (ws S : List ℕ) (s : PointerStrips) (taken : ℕ) (S' : List ℕ) (t : PointerStrips) : Type 0 where
  pub sums : S' ≡ over (sums ws) S
  pub best : t.best ≡ over (bests_of l ws) s.best
  pub next : t.next ≡ over (nexts_of l ws) s.next
  pub left : t.left ≡ over (lefts_of l ws) s.left
  pub right : t.right ≡ over (rights_of l ws) s.right
  pub moves : t.moves ≡ over (map code (pointer_moves l ws)) s.moves
  pub count : taken ≡ length (pointer_moves l ws)

-- of an index's strips, those that the starts write
abbrev pub start_strips : IndexStrips → PointerStrips
start_strips s = pointer_strips s.best s.next s.left s.right s.moves

-- a list that refusals 1 to 5 pass
pub record PageAsk (l : PageLimits) (ws : List ℕ) (s : IndexStrips) : Type 0 where
  pub fill : PageFillAsk l ws s.sums (start_strips s)
  pub boundaries : length ws ≤ length s.boundaries

-- the answer and every strip at exit are those of 01
abbrev pub Paged : PageLimits → List ℕ → IndexStrips → Answer → IndexStrips → Type 0
Paged l ws s answer exit = ◌≡◌ {A = IndexOutcome} (record { answer = answer; strips = exit }) (index_set l ws s (Index.best l ws 0))
