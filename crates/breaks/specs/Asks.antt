-- What the functions of this crate ask and leave. Assumes nothing.
use Rattle.std.specs.Prelude.{Option}
use Rattle.std.specs.Prelude.{ℕ, ◌+◌, ◌-◌, ◌*◌, ◌≤◌, ◌<◌, ◌≡◌, List, [], map, length, replicate}
use Rattle.laws.specs.Outcome.{Promise, Is}
use Rattle.laws.specs.Strip.{over}
use Rattle.paper.specs.declared.Limits.{Limits}
use Rattle.paper.specs.Told.{Answer}
use Rattle.paper.specs.Allowed.{limits_hold, ParagraphPassed}
use Rattle.paper.specs.Moves.{code, Taken, still}
use Rattle.paper.specs.Paragraph as Paragraph
use Rattle.paper.specs.QueueRules.{Standing, text_of, after_starts, queue_moves}
use Rattle.paper.specs.Strips.{entries, sums, best_entry, ParagraphStrips, paragraph_set}
use Rattle.paper_theory.specs.Ranges.{Ranges}
use Rattle.strips.specs.Filling.{Entered, ended}
use Rattle.strips.specs.Words.{words_of, Holds}
use Rattle.breaks.specs.declared.Chosen.{Chosen}
use Rattle.breaks.specs.Choosing.{cost_entry, next_entry}

-- ---- all starts, on strips that are exactly long enough
abbrev pub best_at : Limits → List ℕ → ℕ → ℕ
best_at l ws i = best_entry (Paragraph.best l ws i)

-- the moves of all starts down to i + 1, and what stands then
abbrev pub so_far : Limits → List ℕ → ℕ → Taken Standing
so_far l ws i = after_starts (text_of l ws) (length ws) (length ws - i)

-- the sums of words that refusals 1 to 4 pass
pub record Summed (l : Limits) (S : List ℕ) : Type 0 where
  pub holds : Holds (limits_hold l) l.space S
  pub ranges : Ranges l
  pub size : length S ≡ length (words_of S) + 1

-- the best strip holds the bests of the starts after i
pub record Done (l : Limits) (S B : List ℕ) (i : ℕ) : Type 0 where
  pub sums : Summed l S
  pub bests : Entered (best_at l (words_of S)) 1 (length (words_of S)) (i + 1) B

pub record LastAsks (S B N : List ℕ) : Type 0 where
  pub best : length B ≡ length S
  pub next : length N ≡ length S

-- the starts down to i + 1 are done, and no rule has moved
pub record Begun (l : Limits) (S B N : List ℕ) (i : ℕ) : Type 0 where
  pub low : i ≤ length (words_of S)
  pub unmoved : so_far l (words_of S) i ≡ still (record { queue = []; candidate = length S })
  pub done : Done l S B i
  pub nexts : Entered (Paragraph.chosen_next l (words_of S)) 1 (length (words_of S)) (i + 1) N

-- the remaining words from start k, as one line
abbrev pub rest_at : Limits → List ℕ → ℕ → ℕ
rest_at l S k = Paragraph.line_length l (words_of S) k (Paragraph.end (words_of S))

-- the starts whose rest is shorter than `below` take the same
pub record ShortAsks (l : Limits) (below : ℕ) (t : Option Chosen) (from : ℕ) (S B N : List ℕ) : Type 0 where
  pub begun : Begun l S B N from
  pub narrow : below ≤ l.lmin
  pub takes : (k : ℕ) → 1 ≤ k → k ≤ from → rest_at l S k < below →
      (best_at l (words_of S) k ≡ cost_entry t) × (Paragraph.chosen_next l (words_of S) k ≡ next_entry t)

pub record ShortDone (l : Limits) (below from : ℕ) (S B N : List ℕ) (i : ℕ) : Type 0 where
  pub begun : Begun l S B N i
  pub low : i ≤ from
  pub long : 1 ≤ i → below ≤ rest_at l S i

pub record StartsAsk (S B N Q m : List ℕ) : Type 0 where
  pub best : length B ≡ length S
  pub next : length N ≡ length S
  pub queue : length Q + 1 ≡ length S
  pub moves : 2 * length Q ≤ length m

abbrev pub bests : Limits → List ℕ → List ℕ
bests l ws = entries (best_at l ws) 1 (length ws + 1)

abbrev pub nexts : Limits → List ℕ → List ℕ
nexts l ws = ended (Paragraph.chosen_next l ws) 1 (length ws)

-- the bests, the chosen nexts and the moves of the words
pub record SetStarts (l : Limits) (ws m₀ : List ℕ) (count : ℕ) (B N m : List ℕ) : Type 0 where
  pub best : B ≡ bests l ws
  pub next : N ≡ nexts l ws
  pub moves : m ≡ over (map code (queue_moves l ws)) m₀
  pub counted : count ≡ length (queue_moves l ws)

abbrev pub Starts : Limits → List ℕ → List ℕ → ℕ → List ℕ → List ℕ → List ℕ → Type 0
Starts l S m₀ count B N m = SetStarts l (words_of S) m₀ count B N m

-- ---- the strips, which may be longer
-- words that refusals 1 to 5 pass, but for the room of the breaks
pub record FillAsks (l : Limits) (ws S B N Q m : List ℕ) : Type 0 where
  pub passed : ParagraphPassed l ws
  pub sums : length ws + 1 ≤ length S
  pub best : length ws + 1 ≤ length B
  pub next : length ws + 1 ≤ length N
  pub queue : length ws ≤ length Q
  pub moves : 2 * length ws ≤ length m

-- each strip has the part used at its front, and its rest as it was
pub record Filled (l : Limits) (ws S₀ B₀ N₀ Q₀ m₀ : List ℕ) (count : ℕ) (S B N Q m : List ℕ) : Type 0 where
  pub sums : S ≡ over (sums ws) S₀
  pub best : B ≡ over (bests l ws) B₀
  pub next : N ≡ over (nexts l ws) N₀
  pub queue : Q ≡ over (replicate (length ws) 0) Q₀
  pub moves : m ≡ over (map code (queue_moves l ws)) m₀
  pub counted : count ≡ length (queue_moves l ws)

-- words that refusals 1 to 5 pass
pub record SetAsks (l : Limits) (ws : List ℕ) (s : ParagraphStrips) : Type 0 where
  pub fill : FillAsks l ws s.sums s.best s.next s.queue s.moves
  pub breaks : length ws ≤ length s.breaks

-- the answer and the strips are those of the outcome
abbrev pub BreaksSet : Limits → List ℕ → ParagraphStrips → Answer → ParagraphStrips → Type 0
BreaksSet l ws s answer exit = Promise Is (paragraph_set l ws s (Paragraph.best l ws 1)) answer exit
