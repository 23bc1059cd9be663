-- The starts that are done, and one start under way, which is lent the moves strip from the present count on. Assumes nothing but what each
-- law states.
use Rattle.std.proofs.Common.{◌≡◌, ap, ◌∙◌, ℕ, ◌+◌, ◌-◌, ◌*◌, ◌^◌, ◌≤◌, ◌<◌, List, map, length, get_or, take, drop, length-drop, arith}
use Rattle.std.proofs.Math.Seq.{length-slice}
use Rattle.strips.specs.Running.{length_codes}
use Rattle.laws.specs.Part.{listed}
use Rattle.laws.specs.Strip.{over, length_over, lent_is}
use Rattle.paper.specs.declared.Limits.{Limits}
use Rattle.paper.specs.Paragraph.{chosen_next}
use Rattle.paper.specs.Moves.{code}
use Rattle.paper.specs.QueueRules.{Standing, text_of}
use Rattle.queue_theory.proofs.Count.{after_starts_count}
use Rattle.queue_theory.proofs.Paragraph.{scaled, size}
use Rattle.queue_theory.proofs.Ready.{moves_so_far}
use Rattle.strips.specs.Filling.{Entered}
use Rattle.strips.specs.Words.{words_of, holds_rising}
use Rattle.lines.specs.declared.Measure.{Measure}
use Rattle.lines.specs.Held.{begins}
use Rattle.lines.specs.Asks.{Placed, Moving, Moved}
use Rattle.queue.specs.declared.Queue.{Queue}
use Rattle.queue.specs.Asks.{start, stood, Queued, StartAsks}
use Rattle.queue.specs.Next.{queued_map}
use Rattle.breaks.specs.Asks.{so_far, Summed, Done}
use Rattle.breaks.proofs.Holding.{held_rises, held_place, held_known}

-- where the queue stands in its strip
abbrev pub stands_in : List ℕ → Queue → Standing
stands_in Q q = record { queue = listed (stood Q q); candidate = q.candidate }

-- a member before start i: its line from the start above was at least lmin, and it has a setting
pub record Waiting (l : Limits) (S B : List ℕ) (i k : ℕ) : Type 0 where
  pub within : k ≤ length S
  pub reach : get_or S i 0 + l.space + l.lmin ≤ get_or S (k - 1) 0
  pub number : get_or B (k - 1) 0 < 2 ^ 41

-- the starts down to i + 1 are done
pub record Started (l : Limits) (S m₀ Q B N m : List ℕ) (q : Queue) (i : ℕ) : Type 0 where
  pub low : i ≤ length (words_of S)
  pub moves : m ≡ over (map code (so_far l (words_of S) i).moves) m₀
  pub count : q.moves ≡ length (so_far l (words_of S) i).moves
  pub stands : (so_far l (words_of S) i).stands ≡ stands_in Q q
  pub queued : Queued (Waiting l S B i) (stood Q q) q.candidate
  pub near : i + 1 ≤ q.candidate
  pub done : Done l S B i
  pub nexts : Entered (chosen_next l (words_of S)) 1 (length (words_of S)) (i + 1) N
  pub queue_size : length Q ≡ length (words_of S)
  pub room : 2 * length (words_of S) ≤ length m₀
  pub fits : q.moves ≤ length m₀

pub few_moves : {l : Limits} {S : List ℕ} → Summed l S → (k : ℕ) → length (so_far l (words_of S) k).moves ≤ 2 * length (words_of S)
few_moves {l} {S} s k =
    let passed = s.holds.passed in
    moves_so_far (scaled l (words_of S) passed) (length (words_of S)) (size l (words_of S) passed) (length (words_of S) - k) (omega arith)

pub started_length : {l : Limits} {S m₀ Q B N m : List ℕ} {q : Queue} {i : ℕ} → Started l S m₀ Q B N m q i → length m ≡ length m₀
started_length {l} {S} {m₀} {i = i} s =
    let ms = (so_far l (words_of S) i).moves in
    ap length s.moves ∙ length_over (map code ms) m₀ (omega (arith, length_codes ms, few_moves s.done.sums i))

-- ---- start i, where p is the measure of its lines
pub record Turn (l : Limits) (S m₀ Q B N m : List ℕ) (q : Queue) (i : ℕ) (p : Measure) : Type 0 where
  pub started : Started l S m₀ Q B N m q i
  pub first : 1 ≤ i
  pub placed : Placed l p
  pub begun : begins l p ≡ get_or S (i - 1) 0 + l.space

-- The measure of the first word's lines, which begin at the space, moved on by the sum before the start: its lines begin a space after
-- that.
module _ {l : Limits} {S m₀ Q B N m : List ℕ} {q : Queue} {i : ℕ} (s : Started l S m₀ Q B N m q i) (first : 1 ≤ i) {base : Measure}
    (given : Placed l base × (begins l base ≡ l.space)) where
  place : get_or S (i - 1) 0 + l.space + l.lmax ≤ 2 ^ 25
  place = held_place s.done.sums i first (omega arith)

  pub started_moving : Moving base (get_or S (i - 1) 0)
  started_moving =
      let at = given.0 in
      record { near = omega arith; goal = omega arith; bounded = omega (arith, given.1, place) }

  pub started_turn : {p : Measure} → Moved base (get_or S (i - 1) 0) p → Turn l S m₀ Q B N m q i p
  started_turn on =
      let at = given.0 in
      record {
        started = s;
        first = first;
        placed = record {
          near = omega arith;
          goal = omega arith;
          far = omega arith;
          bounded = omega (arith, given.1, place);
        };
        begun = omega (arith, given.1);
      }

module _ {l : Limits} {S m₀ Q B N m : List ℕ} {q : Queue} {i : ℕ} {p : Measure} (t : Turn l S m₀ Q B N m q i p) where
  pub turn_asks : StartAsks (start l p S B) i Q q (length (take (length m - q.moves) (drop q.moves m)))
  turn_asks =
      let s = t.started in
      let sums = s.done.sums in
      let count = after_starts_count (text_of l (words_of S)) (length (words_of S)) (length (words_of S) - i) in
      let stand = ap (λ (z : Standing). length z.queue) s.stands ∙ length-slice q.front q.end Q s.queued.standing in
      let candidate = ap (λ (z : Standing). z.candidate) s.stands in
      record {
        readable = record {
          ranges = sums.ranges;
          placed = t.placed;
          rising = holds_rising sums.holds;
          few = omega (arith, sums.holds.passed.few);
          ends = omega arith;
          bests = omega arith;
        };
        known = held_known s.done t.first;
        -- the line from start i is longer still
        queued = queued_map (λ k below v. record {
          within = v.within;
          reach = omega (arith, v.reach, t.placed.near, t.begun, held_rises sums (i - 1) i (omega arith) s.low);
          number = v.number;
        }) s.queued;
        first = t.first;
        near = omega arith;
        enough = rw (lent_is m q.moves, length-drop q.moves m)
            (omega (arith, count, stand, candidate, s.count, s.near, started_length s));
      }
