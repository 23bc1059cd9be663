-- The starts whose lines are all too short for a rule to move, from the end on, and that the other starts go on from there. Assumes nothing
-- but what each law states.
use Rattle.std.proofs.Common.{◌≡◌, ap, sym, ◌∙◌, Option, ℕ, suc, ◌+◌, ◌-◌, ◌*◌, ◌^◌, ◌≤◌, ◌<◌, List, [], map, length, set, arith}
use Rattle.laws.specs.Strip.{over, over_nil}
use Rattle.paper.specs.declared.Limits.{Limits}
use Rattle.paper.specs.Moves.{Taken, code, still, joined}
use Rattle.paper.specs.Paragraph.{chosen_next, lines}
use Rattle.paper.specs.QueueRules.{Text, Standing, text_of, drop_long, drop_worse, settled, at_start, after_starts}
use Rattle.queue_theory.proofs.Turns.{candidates_stop}
use Rattle.strips.specs.Filling.{Entered, entered_first, entered_more}
use Rattle.strips.specs.Words.{words_of}
use Rattle.breaks.specs.declared.Chosen.{Chosen}
use Rattle.breaks.specs.Choosing.{cost_entry, next_entry, Settles}
use Rattle.breaks.specs.Asks.{best_at, so_far, rest_at, Summed, LastAsks, Begun}
use Rattle.breaks.proofs.Started.{Started}

-- nothing stands, and the candidate c is too near for a line: no rule moves
unmoved : (t : Text) (i c : ℕ) → t.lines.line i c < t.lines.lmin →
    at_start t i (record { queue = []; candidate = c }) ≡ still (record { queue = []; candidate = c })
unfolding at_start settled drop_long drop_worse
unmoved t i c short = rw (candidates_stop t i c [] short)

module _ {l : Limits} {S B N : List ℕ} (s : Summed l S) (a : LastAsks S B N) where
  ended : (f : ℕ → ℕ) (t : List ℕ) → length t ≡ length S →
      Entered f 1 (length (words_of S)) (length S - 1 + 1) (set t (length S - 1) 0)
  ended f t size =
      let e : length S - 1 ≡ length (words_of S) = omega arith in
      rw e (entered_first t (length (words_of S)) (omega arith) (omega arith))

  pub begun_first : Begun l S (set B (length S - 1) 0) (set N (length S - 1) 0) (length S - 1)
  unfolding after_starts
  begun_first = record {
    low = omega arith;
    unmoved = let e : length (words_of S) - (length S - 1) ≡ 0 = omega arith in rw (e, s.size);
    done = record { sums = s; bests = ended (best_at l (words_of S)) B a.best };
    nexts = ended (chosen_next l (words_of S)) N a.next;
  }

module _ {l : Limits} {S B N : List ℕ} {i : ℕ} (b : Begun l S B N i) where
  abbrev ws : List ℕ
  ws = words_of S

  module _ (first : 1 ≤ i) (short : rest_at l S i < l.lmin) where
    further : so_far l ws (i - 1) ≡ still (record { queue = []; candidate = length S })
    unfolding after_starts text_of lines
    further =
        let e : length ws - (i - 1) ≡ suc (length ws - i) = omega arith in
        let f : length ws - (length ws - i) ≡ i = omega arith in
        rw (e, f)
        (ap (λ (t : Taken Standing). joined t (at_start (text_of l ws) i)) b.unmoved
        ∙ unmoved (text_of l ws) i (length S) (rw b.done.sums.size short))

    -- one start more
    pub begun_more : {t : Option Chosen} {B' N' : List ℕ} → (best_at l ws i ≡ cost_entry t) × (chosen_next l ws i ≡ next_entry t) →
        Settles i t B N B' N' → Begun l S B' N' (i - 1)
    begun_more {B' = B'} {N' = N'} takes w =
        let e : i - 1 + 1 ≡ i = omega arith in
        let best = w.best ∙ ap (set B (i - 1)) (sym takes.0) in
        let next = w.next ∙ ap (set N (i - 1)) (sym takes.1) in
        record {
          low = omega arith;
          unmoved = further;
          done = record { sums = b.done.sums; bests = rw e (entered_more b.done.bests i (i - 1) B' (omega arith) b.low e best) };
          nexts = rw e (entered_more b.nexts i (i - 1) N' (omega arith) b.low e next);
        }

  -- the other starts go on from here
  pub begun_started : (Q m : List ℕ) → length Q + 1 ≡ length S → 2 * length Q ≤ length m →
      Started l S m Q B N m (record { front = 0; end = 0; candidate = length S; moves = 0; cost = 2 ^ 64 - 1 }) i
  begun_started Q m size room = record {
    low = b.low;
    moves = sym (over_nil m) ∙ ap (λ (t : Taken Standing). over (map code t.moves) m) (sym b.unmoved);
    count = ap (λ (t : Taken Standing). length t.moves) (sym b.unmoved);
    stands = ap (λ (t : Taken Standing). t.stands) b.unmoved;
    queued = record { order = omega arith; standing = omega arith; each = tt; falls = tt; below = tt; place = omega arith };
    near = omega arith;
    done = b.done;
    nexts = b.nexts;
    queue_size = omega arith;
    room = omega arith;
    fits = omega arith;
  }
