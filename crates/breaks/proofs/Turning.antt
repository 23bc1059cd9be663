-- What a start's rules leave: its moves after those of the starts before, and the queue as it stands on the words. Assumes nothing but what
-- each law states.
use Rattle.std.proofs.Common.{◌≡◌, ap, sym, ◌∙◌, ℕ, suc, ◌+◌, ◌-◌, ◌≤◌, List, ◌++◌, map, length, get_or, take, drop, length-append, arith}
use borrow.Rule.Slice.PartMut.{put_mid}
use Rattle.laws.specs.Part.{part_none}
use Rattle.laws.specs.Strip.{over, onward, over_onward}
use Rattle.paper.specs.declared.Limits.{Limits}
use Rattle.paper.specs.Moves.{Taken, code, joined}
use Rattle.paper.specs.QueueRules.{Standing, text_of, at_start, after_starts, queue_at}
use Rattle.paper.specs.Strips.{best_entry}
use Rattle.strips.specs.Running.{Ran, ran_lent, map_append, length_codes}
use Rattle.strips.specs.Words.{words_of}
use Rattle.lines.specs.declared.Measure.{Measure}
use Rattle.lines.specs.Held.{begins, text_in}
use Rattle.queue.specs.declared.Queue.{Queue}
use Rattle.queue.specs.Asks.{start, stood, StartLeaves}
use Rattle.breaks.specs.Choosing.{ChooseAsks}
use Rattle.breaks.specs.Asks.{so_far}
use Rattle.breaks.proofs.Agreeing.{held_rules}
use Rattle.breaks.proofs.Holding.{held_rises}
use Rattle.breaks.proofs.Started.{stands_in, Turn, few_moves, started_length}

module _ {l : Limits} {S m₀ Q B N m : List ℕ} {q : Queue} {i : ℕ} {p : Measure} (t : Turn l S m₀ Q B N m q i p) {r : Queue} {Q' n : List ℕ}
    (leaves : StartLeaves (start l p S B) i (stood Q q) q.candidate (take (length m - q.moves) (drop q.moves m)) r Q' n) where
  abbrev ws : List ℕ
  ws = words_of S

  own : Taken Standing
  own = queue_at (text_of l ws) (length ws) i

  -- in the whole strip the start went on from the present count, by the rules on the words
  ran : Ran own q.moves m (put_mid q.moves (length m - q.moves) m n) (q.moves + r.moves) (stands_in Q' r)
  unfolding own
  ran =
      let rule =
      ap (λ (x : ℕ). at_start (text_in l S B x) i (stands_in Q q)) t.begun
      ∙ held_rules t.started.done t.first t.started.low (stands_in Q q) t.started.stands in
      let s = t.started in
      rw rule at
      (ran_lent (at_start (text_in l S B (begins l p)) i (stands_in Q q)) q.moves m n r.moves (stands_in Q' r)
      (omega (arith, started_length s)) leaves.left.ran)

  pub turn_own : (queue_at (text_of l ws) (length ws) i).stands ≡ stands_in Q' r
  unfolding own
  turn_own = ran.stands

  -- one start more
  turn_further : so_far l ws (i - 1) ≡ joined (so_far l ws i) (at_start (text_of l ws) i)
  unfolding after_starts
  turn_further =
      let s = t.started in
      let e : length ws - (i - 1) ≡ suc (length ws - i) = omega (arith, t.first) in
      let f : length ws - (length ws - i) ≡ i = omega arith in
      rw (e, f)

  pub turn_stands : (so_far l ws (i - 1)).stands ≡ stands_in Q' r
  unfolding own queue_at
  turn_stands = ap (λ (a : Taken Standing). a.stands) turn_further ∙ ran.stands

  more : (so_far l ws (i - 1)).moves ≡ (so_far l ws i).moves ++ own.moves
  unfolding own queue_at
  more = ap (λ (a : Taken Standing). a.moves) turn_further

  pub turn_count : q.moves + r.moves ≡ length (so_far l ws (i - 1)).moves
  turn_count = omega (arith, ran.count, t.started.count, ap length more, length-append (so_far l ws i).moves own.moves)

  pub turn_fits : q.moves + r.moves ≤ length m₀
  turn_fits = omega (arith, turn_count, t.started.room, few_moves t.started.done.sums (i - 1))

  pub turn_moves : put_mid q.moves (length m - q.moves) m n ≡ over (map code (so_far l ws (i - 1)).moves) m₀
  turn_moves =
      let before = (so_far l ws i).moves in
      ran.moves
      ∙ ap (onward q.moves (map code own.moves)) t.started.moves
      ∙ over_onward (map code before) (map code own.moves) m₀ q.moves (t.started.count ∙ sym (length_codes before))
      ∙ ap (λ (c : List ℕ). over c m₀) (sym (ap (map code) more ∙ map_append before own.moves))

  pub turn_choose : {e : ℕ} → e ≡ get_or S (length S - 1) 0 → ChooseAsks l (get_or S (i - 1) 0) e Q' r
  unfolding best_entry
  turn_choose last =
      let s = t.started in
      let sums = s.done.sums in
      record {
        ranges = sums.ranges;
        before = rw last (held_rises sums (i - 1) (length S - 1) (omega arith) (omega arith));
        standing = leaves.left.queued.standing;
        short = omega (arith, leaves.left.same, sums.holds.passed.few);
        nobody = λ none. leaves.cost ∙ rw (part_none Q' leaves.left.queued.standing none);
        number = leaves.number;
      }
