-- A start settled: what it takes is its best and its chosen next, and the starts down to it are done. Assumes nothing but what each law
-- states.
use Rattle.std.proofs.Common.{◌≡◌, ap, ◌∙◌, Option, ℕ, ◌+◌, ◌-◌, ◌≤◌, ◌<◌, List, length, get_or, take, drop, set, arith}
use borrow.Rule.Slice.PartMut.{put_mid}
use Rattle.std.proofs.lemmas.List.{get_or-set_other}
use Rattle.laws.specs.Part.{listed}
use Rattle.paper.specs.declared.Limits.{Limits}
use Rattle.paper.specs.Paragraph.{chosen_next}
use Rattle.paper.specs.QueueRules.{Standing}
use Rattle.paper.specs.Strips.{best_entry}
use Rattle.strips.specs.Filling.{entered_more}
use Rattle.strips.specs.Words.{words_of}
use Rattle.lines.specs.declared.Measure.{Measure}
use Rattle.queue.specs.declared.Queue.{Queue}
use Rattle.queue.specs.Asks.{start, stood, StartLeaves}
use Rattle.queue.specs.Next.{queued_map}
use Rattle.breaks.specs.declared.Chosen.{Chosen}
use Rattle.breaks.specs.Choosing.{Chooses, Settles}
use Rattle.breaks.specs.Asks.{best_at}
use Rattle.breaks.proofs.Agreeing.{held_takes}
use Rattle.breaks.proofs.Holding.{held_rest}
use Rattle.breaks.proofs.Started.{Turn, Started}
use Rattle.breaks.proofs.Taking.{taken_numbers}
use Rattle.breaks.proofs.Turning.{turn_own, turn_stands, turn_count, turn_fits, turn_moves}

module _ {l : Limits} {S m₀ Q B N m : List ℕ} {q : Queue} {i : ℕ} {p : Measure} (t : Turn l S m₀ Q B N m q i p) {r : Queue} {Q' n : List ℕ}
    (leaves : StartLeaves (start l p S B) i (stood Q q) q.candidate (take (length m - q.moves) (drop q.moves m)) r Q' n)
    {c : Option Chosen} (ch : Chooses l (get_or S (i - 1) 0) p.goal (get_or S (length S - 1) 0) Q' r c)
    {B' N' : List ℕ} (w : Settles i c B N B' N') where
  takes : (B' ≡ set B (i - 1) (best_at l (words_of S) i)) × (N' ≡ set N (i - 1) (chosen_next l (words_of S) i))
  takes =
      let s = t.started in
      let sums = s.done.sums in
      let q' : List ℕ = listed (stood Q' r) in
      let goal : p.goal ≡ get_or S (i - 1) 0 + l.space + l.lopt = omega (arith, t.placed.goal, t.begun) in
      let places : length Q' + 1 ≡ length S = omega (arith, leaves.left.same) in
      let longer : get_or S (i - 1) 0 + l.space ≤ get_or S (length S - 1) 0 = omega (arith, held_rest sums i t.first s.low) in
      let cost = rw t.begun at leaves.cost in
      let u = taken_numbers sums.ranges S B (get_or S (i - 1) 0) i (omega arith) longer q' cost places in
      let v = held_takes s.done t.first s.low q' (ap (λ (z : Standing). z.queue) (turn_own t leaves)) in (
        w.best ∙ ap (set B (i - 1)) (rw goal at ch.cost ∙ u.0 ∙ ap best_entry v.0),
        w.next ∙ ap (set N (i - 1)) (rw goal at ch.next ∙ u.1 ∙ v.1),
      )

  -- entries of later starts are as they were
  other : (k : ℕ) → i < k → get_or B' (k - 1) 0 ≡ get_or B (k - 1) 0
  other k h =
      ap (λ (b : List ℕ). get_or b (k - 1) 0) takes.0
      ∙ get_or-set_other B (i - 1) (k - 1) (best_at l (words_of S) i) 0 (λ e. omega (arith, t.first))

  pub turn_next : Started l S m₀ Q' B' N' (put_mid q.moves (length m - q.moves) m n)
      (record { front = r.front; end = r.end; candidate = r.candidate; moves = q.moves + r.moves; cost = r.cost }) (i - 1)
  turn_next =
      let s = t.started in
      let e : i - 1 + 1 ≡ i = omega (arith, t.first) in
      record {
        low = omega arith;
        moves = turn_moves t leaves;
        count = turn_count t leaves;
        stands = turn_stands t leaves;
        queued = queued_map (λ k below v. record {
          within = v.within;
          reach = omega (arith, v.reach, t.placed.near, t.begun);
          number = omega (arith, other k (omega (arith, leaves.left.near)), v.number);
        }) leaves.left.queued;
        near = omega (arith, leaves.left.near, t.first);
        done = record { sums = s.done.sums; bests = rw e (entered_more s.done.bests i (i - 1) B' (omega arith) s.low e takes.0) };
        nexts = rw e (entered_more s.nexts i (i - 1) N' (omega arith) s.low e takes.1);
        queue_size = leaves.left.same ∙ s.queue_size;
        room = s.room;
        fits = turn_fits t leaves;
      }
