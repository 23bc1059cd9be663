-- Members of the queue meet what lines and the rules' loops ask, and the numbers on the strips are those of the start's text. Assumes
-- nothing.
use Prim.Native.Nat.{ℕ, ◌+◌, ◌-◌, ◌≤◌, ◌<◌}
use mathlib.Core.Path.{◌≡◌}
use native.Mathlib.Omega.{arith}
use lib.ListN.{get_or}
use Rattle.laws.specs.Members.{every_slice, slice_every, slice_pairs}
use Rattle.laws.specs.Part.{Part, part, Each, part_later}
use Rattle.paper.specs.QueueRules.{F}
use Rattle.lines.specs.Held.{begins, break_in, text_in, cost_at}
use Rattle.lines.specs.Asks.{farthest, Priced, EndsInside, Three}
use Rattle.lines.specs.Tests.{line_in, through_in}
use Rattle.queue.specs.Asks.{ShedAsks, Past, Start, text_at, Costed, Readable, Member, Inside, Queued}

module _ {s : Start} {n : ℕ} (readable : Readable s n) where
  bounded : s.measure.goal ≤ farthest
  bounded =
      omega (arith, readable.placed.goal, readable.placed.far, readable.placed.bounded, readable.ranges.lopt_high)

  pub member_index : {k : ℕ} → Member s k → k ≤ 4097
  member_index m = omega (arith, m.within, readable.ends, readable.few)

  priced : {k : ℕ} → Inside s k → Priced (break_in s.ends s.best k)
  priced m = record { end = omega (arith, m.high, readable.placed.bounded); number = m.member.number }

  measured : {k : ℕ} → Inside s k → EndsInside s.limits (get_or s.ends (k - 1) 0) s.measure.goal
  measured m =
      let p = readable.placed in
      record { low = omega (arith, p.near, p.goal, m.member.reach); high = omega (arith, p.far, p.goal, m.high) }

  pub inside_through : {k : ℕ} → 1 ≤ k → Inside s k → Costed s k
  inside_through first m = record {
    index = record { first = first; within = m.member.within };
    same = omega (arith, readable.ends, readable.bests);
    curve = record { ranges = readable.ranges; bounded = bounded; break = priced m; inside = measured m };
  }

  -- the candidate j, the rear k and its neighbour o
  pub inside_three : {j k o : ℕ} → 1 ≤ j → j ≤ k → k ≤ o → Inside s j → Inside s k → Inside s o →
      Three s.limits (break_in s.ends s.best j) (break_in s.ends s.best k) (break_in s.ends s.best o)
  inside_three {j} {k} {o} first jk ko mj mk mo = record {
    ranges = readable.ranges;
    jk = readable.rising (j - 1) (k - 1) (omega arith) (omega (arith, mk.member.within));
    kn = readable.rising (k - 1) (o - 1) (omega arith) (omega (arith, mo.member.within));
    near = omega (arith, mj.member.reach, mo.high, readable.placed.near, readable.placed.far);
    j_break = priced mj;
    k_break = priced mk;
    n_break = priced mo;
  }

  -- ---- the start's text
  pub past_in : (i k : ℕ) → i < k → Past s.ends s.measure.far (text_at s) i k
  unfolding text_in
  past_in i k after =
      let line = line_in s.limits s.ends s.best (begins s.limits s.measure) i k after in
      record { long = λ h. omega (arith, line, readable.placed.far); short = λ h. omega (arith, line, readable.placed.far) }

  pub cost_in : (i k : ℕ) → i < k → Inside s k → cost_at s.limits s.measure.goal (break_in s.ends s.best k) ≡ F (text_at s) i k
  cost_in i k after m = through_in s.limits s.ends s.best i k readable.placed after m.member.reach (priced m)

-- ---- the queue
module _ {P : ℕ → Type 0} {q : Part} {c : ℕ} (queued : Queued P q c) where
  pub queued_each : (a : ℕ) → q.from ≤ a → a < q.to → P (get_or q.strip a 0)
  queued_each = slice_every P q.from q.to q.strip queued.standing queued.each

  pub queued_below : (a : ℕ) → q.from ≤ a → a < q.to → c < get_or q.strip a 0
  queued_below = slice_every (λ (k : ℕ). c < k) q.from q.to q.strip queued.standing queued.below

  pub queued_falls : (a b : ℕ) → q.from ≤ a → a < b → b < q.to → get_or q.strip b 0 < get_or q.strip a 0
  queued_falls = slice_pairs (λ (j k : ℕ). k < j) q.from q.to q.strip queued.standing queued.falls

  -- from a later front on, P' holds of each
  pub queued_rest : {P' : ℕ → Type 0} {f : ℕ} → q.from ≤ f → f ≤ q.to → Each P' (part q.strip f q.to) →
      Queued P' (part q.strip f q.to) c
  queued_rest {P'} {f} low order each = record {
    order = order;
    standing = queued.standing;
    each = every_slice P' f q.to q.strip order queued.standing each;
    falls = part_later (λ (j k : ℕ). k < j) q.strip q.from f q.to low queued.falls;
    below = every_slice (λ (k : ℕ). c < k) f q.to q.strip order queued.standing (λ a l. queued_below a (omega arith));
    place = queued.place;
  }

  -- a part of it, in a rule that asks P' of each member
  pub queued_sheds : {P' : ℕ → Type 0} {f e t room : ℕ} → q.from ≤ f → f ≤ e → e ≤ q.to → t + (e - f) ≤ room →
      ((k : ℕ) → c < k → P k → P' k × (k ≤ 4097)) → ShedAsks P' (part q.strip f e) t room
  queued_sheds {P'} {f} {e} low order high enough gives =
      record {
        order = order;
        standing = omega (arith, queued.standing);
        enough = enough;
        each = λ a l h. (at a (omega arith) (omega arith)).0;
        index = λ a l h. (at a (omega arith) (omega arith)).1;
      }
    where
      at : (a : ℕ) → q.from ≤ a → a < q.to → P' (get_or q.strip a 0) × (get_or q.strip a 0 ≤ 4097)
      at a l h = gives (get_or q.strip a 0) (queued_below a l h) (queued_each a l h)
