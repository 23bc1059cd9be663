-- 01, "Strips lent by the caller" and what a call leaves in each: the outcome of a call, from its inputs alone.
use Rattle.std.specs.Prelude.{ℕ, zero, suc, ◌+◌, ◌-◌, ◌*◌, ◌^◌, not, List, [], ◌∷◌, ◌++◌, map, length, take, replicate}
use Rattle.laws.specs.Cost.{Cost, none, some, leq}
use Rattle.laws.specs.Search.{pick, smallest, largest}
use Rattle.laws.specs.Strip.{over}
use Rattle.laws.specs.Outcome.{Outcome}
use Rattle.paper.specs.declared.Limits.{Limits}
use Rattle.paper.specs.declared.PageLimits.{PageLimits}
use Rattle.paper.specs.declared.Move.{Move}
use Rattle.paper.specs.Paragraph as Paragraph
use Rattle.paper.specs.Paragraph.{sum}
use Rattle.paper.specs.Index as Index
use Rattle.paper.specs.Allowed.{limits_hold, page_limits_hold}
use Rattle.paper.specs.Told.{Answer, set_answer, none_answer, refused_answer, Checked, unless, checked}
use Rattle.paper.specs.Moves.{code}
use Rattle.paper.specs.QueueRules.{queue_moves}
use Rattle.paper.specs.PointerRules.{pointer_moves}

-- ---- entries
-- the values of f for the d indices from k on
unfoldable pub entries : {A : Type 0} → (ℕ → A) → ℕ → ℕ → List A
entries f k zero = []
entries f k (suc d) = f k ∷ entries f (suc k) d

-- "sums entry k (from 0) is the total of the first k lengths"
unfoldable pub sums : List ℕ → List ℕ
sums ws = entries (λ k. sum (take k ws)) 0 (length ws + 1)

-- "where there is no setting, best is 2^64 - 1"
unfoldable pub best_entry : Cost → ℕ
best_entry none = 2 ^ 64 - 1
best_entry (some v) = v

-- "In left, the entry for index j from 1 to n+1 is the largest k with 1 ≤ k < j whose best is smaller, or 0 if none"
unfoldable pub left_entry : (ℕ → Cost) → ℕ → ℕ
left_entry best j = pick largest (λ k. not (leq (best j) (best k))) 1 (j - 1)

-- "in right, for j from 1 to n, the smallest k > j whose best is not larger"
unfoldable pub right_entry : (ℕ → Cost) → ℕ → ℕ → ℕ
right_entry best n j = pick smallest (λ k. leq (best k) (best j)) (j + 1) (n + 1 - j)

-- ---- what a call gives: the answer, and every strip at exit
-- "NONE writes every strip as said above but breaks or boundaries, which stay unchanged; it returns the count of moves": the strips as
-- written with the breaks or boundaries that are found, or with none of them
abbrev pub set_or_none : {S : Type 0} → (List ℕ → S) → List ℕ → List Move → Cost → Outcome Answer S
set_or_none written list moves none = record { answer = none_answer (length moves); strips = written [] }
set_or_none written list moves (some total) = record { answer = set_answer total (length list) (length moves); strips = written list }

-- "Refusals 1 to 5 change no strip"
abbrev pub refused_or : {S : Type 0} → S → Checked → Outcome Answer S → Outcome Answer S
refused_or s = unless (λ r. record { answer = refused_answer r; strips = s })

-- ---- the paragraph
-- "Paragraph, in order: sums (n+1 entries), best (n+1), next (n+1), queue (n), moves (2n), breaks (n)."
pub record ParagraphStrips : Type 0 where
  pub sums : List ℕ
  pub best : List ℕ
  pub next : List ℕ
  pub queue : List ℕ
  pub moves : List ℕ
  pub breaks : List ℕ

abbrev pub ParagraphOutcome : Type 0
ParagraphOutcome = Outcome Answer ParagraphStrips

abbrev pub paragraph_strips : List ℕ → List ℕ → List ℕ → List ℕ → List ℕ → List ℕ → ParagraphStrips
paragraph_strips sums best next queue moves breaks =
    record { sums = sums; best = best; next = next; queue = queue; moves = moves; breaks = breaks }

abbrev pub paragraph_has : ParagraphStrips → List ℕ
paragraph_has s =
    length s.sums ∷ length s.best ∷ length s.next ∷ length s.queue ∷ length s.moves ∷ length s.breaks ∷ []

abbrev pub paragraph_needs : ℕ → List ℕ
paragraph_needs n = (n + 1) ∷ (n + 1) ∷ (n + 1) ∷ n ∷ (2 * n) ∷ n ∷ []

-- "In best and next the entry for every start holds its best and its chosen next [..] The end's next is 0. For the paragraph the
-- first entry belongs to start 1 [..] The n queue entries are 0." The breaks are those given.
unfoldable pub paragraph_written : Limits → List ℕ → ParagraphStrips → List ℕ → ParagraphStrips
paragraph_written l ws s breaks = record {
  sums = over (sums ws) s.sums;
  best = over (entries (λ i. best_entry (Paragraph.best l ws i)) 1 (length ws + 1)) s.best;
  next = over (entries (Paragraph.chosen_next l ws) 1 (length ws) ++ (0 ∷ [])) s.next;
  queue = over (replicate (length ws) 0) s.queue;
  moves = over (map code (queue_moves l ws)) s.moves;
  breaks = over breaks s.breaks;
}

unfoldable pub paragraph_set : Limits → List ℕ → ParagraphStrips → Cost → ParagraphOutcome
paragraph_set l ws s best = set_or_none (paragraph_written l ws s) (Paragraph.breaks l ws) (queue_moves l ws) best

unfoldable pub paragraph_checked : Limits → List ℕ → ParagraphStrips → Checked → ParagraphOutcome
paragraph_checked l ws s c = refused_or s c (paragraph_set l ws s (Paragraph.best l ws 1))

unfoldable pub paragraph_outcome : Limits → List ℕ → ParagraphStrips → ParagraphOutcome
paragraph_outcome l ws s = paragraph_checked l ws s (checked (limits_hold l) l.space ws (paragraph_has s) (paragraph_needs (length ws)))

-- ---- the index
-- "Index: sums (n+1), best (n+2), next (n+2), left (n+2), right (n+2), moves (2n), boundaries (n)."
pub record IndexStrips : Type 0 where
  pub sums : List ℕ
  pub best : List ℕ
  pub next : List ℕ
  pub left : List ℕ
  pub right : List ℕ
  pub moves : List ℕ
  pub boundaries : List ℕ

abbrev pub IndexOutcome : Type 0
IndexOutcome = Outcome Answer IndexStrips

abbrev pub index_strips : List ℕ → List ℕ → List ℕ → List ℕ → List ℕ → List ℕ → List ℕ → IndexStrips
index_strips sums best next left right moves boundaries =
    record { sums = sums; best = best; next = next; left = left; right = right; moves = moves; boundaries = boundaries }

abbrev pub index_has : IndexStrips → List ℕ
index_has s =
    length s.sums ∷ length s.best ∷ length s.next ∷ length s.left ∷ length s.right ∷ length s.moves
    ∷ length s.boundaries ∷ []

abbrev pub index_needs : ℕ → List ℕ
index_needs n = (n + 1) ∷ (n + 2) ∷ (n + 2) ∷ (n + 2) ∷ (n + 2) ∷ (2 * n) ∷ n ∷ []

-- "for the index [the first entry belongs] to 0." "Entries for 0 in left, and for 0 and n+1 in right, are 0."
unfoldable pub index_written : PageLimits → List ℕ → IndexStrips → List ℕ → IndexStrips
index_written l ws s boundaries = record {
  sums = over (sums ws) s.sums;
  best = over (entries (λ i. best_entry (Index.best l ws i)) 0 (length ws + 2)) s.best;
  next = over (entries (Index.chosen_next l ws) 0 (length ws + 1) ++ (0 ∷ [])) s.next;
  left = over (0 ∷ entries (left_entry (Index.best l ws)) 1 (length ws + 1)) s.left;
  right = over (0 ∷ entries (right_entry (Index.best l ws) (length ws)) 1 (length ws) ++ (0 ∷ [])) s.right;
  moves = over (map code (pointer_moves l ws)) s.moves;
  boundaries = over boundaries s.boundaries;
}

unfoldable pub index_set : PageLimits → List ℕ → IndexStrips → Cost → IndexOutcome
index_set l ws s best = set_or_none (index_written l ws s) (Index.boundaries l ws) (pointer_moves l ws) best

unfoldable pub index_checked : PageLimits → List ℕ → IndexStrips → Checked → IndexOutcome
index_checked l ws s c = refused_or s c (index_set l ws s (Index.best l ws 0))

unfoldable pub index_outcome : PageLimits → List ℕ → IndexStrips → IndexOutcome
index_outcome l ws s = index_checked l ws s (checked (page_limits_hold l) 0 ws (index_has s) (index_needs (length ws)))
