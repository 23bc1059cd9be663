-- Both pops and the new candidate, one after the other. Assumes nothing.
use Prim.Native.Nat.{ℕ, ◌+◌, ◌≤◌, ◌<◌}
use mathlib.Core.Path.{◌≡◌, ap, ◌∙◌}
use mathlib.Core.List.{List, ◌∷◌, reverse}
use native.Mathlib.Omega.{arith}
use lib.ListN.{length, get_or, set, length-set}
use Rattle.laws.specs.Members.{slice_push}
use Rattle.laws.specs.Part.{Part, part, listed}
use Rattle.paper.specs.declared.Kind.TheVariants.{Add}
use Rattle.paper.specs.Moves.{code, move, joined}
use Rattle.paper.specs.QueueRules.{pop_worse, pop_bridged, added, add}
use Rattle.lines.specs.declared.Break.{Break}
use Rattle.lines.specs.Held.{begins, break_in, cost_at}
use Rattle.lines.specs.Asks.{Three}
use Rattle.lines.specs.Tests.{bridged_in}
use Rattle.strips.specs.Running.{joined_ran}
use Rattle.strips.specs.Single.{ran_move}
use Rattle.queue.specs.Asks.{ShedAsks, NewAt, WorsePopped, PopBridgedAsks, BridgesAt, BridgedPopped, Start, text_at, Inside}
use Rattle.queue.specs.Asks.{Costed, AddAsks, Adds}
use Rattle.queue.proofs.Members.{member_index, inside_through, inside_three, cost_in, queued_each, queued_below, queued_falls}
use Rattle.queue.proofs.Members.{queued_sheds}

module _ {s : Start} {j : ℕ} {new : Break} {q : Part} {t room : ℕ} (a : AddAsks s j new q t room) where
  inside : Inside s j
  inside =
      let e = ap (λ (b : Break). b.end) a.consider.read in
      let b = ap (λ (b : Break). b.best) a.consider.read in
      record {
        member = record { within = a.consider.within; reach = omega (arith, a.consider.reach); number = omega (arith, a.number) };
        high = omega (arith, a.high);
      }

  pub adding_worse : ShedAsks (Costed s) q t room
  adding_worse =
      queued_sheds a.consider.queued (omega arith) a.consider.queued.order (omega arith)
      (omega (arith, a.consider.enough))
      (λ k below m. (inside_through a.consider.readable (omega arith) m, member_index a.consider.readable m.member))

  three : (p : ℕ) → q.from ≤ p → p + 1 < q.to →
      Three s.limits new (break_in s.ends s.best (get_or q.strip (p + 1) 0)) (break_in s.ends s.best (get_or q.strip p 0))
  three p low high =
      let queued = a.consider.queued in
      let jk = queued_below queued (p + 1) (omega arith) high in
      let kn = queued_falls queued p (p + 1) low (omega arith) high in
      rw a.consider.read
      (inside_three a.consider.readable (omega (arith, a.consider.later)) (omega arith) (omega arith) inside
      (queued_each queued (p + 1) (omega arith) high) (queued_each queued p low (omega arith)))

  -- at a start before the candidate
  module _ {cost : ℕ} (is : cost ≡ cost_at s.limits s.measure.goal new) where
    new_at : (i : ℕ) → i < j → NewAt s cost q
    new_at i before = record {
      costs = record {
        text = text_at s;
        start = i;
        each = λ p low high.
            cost_in a.consider.readable i (get_or q.strip p 0) (omega (arith, queued_below a.consider.queued p low high))
            (queued_each a.consider.queued p low high);
      };
      candidate = j;
      is = is ∙ rw a.consider.read (cost_in a.consider.readable i j before inside);
    }

    -- the pops left the queue at the part up to place w, and then at that up to place b
    module _ {m₀ m₁ : List ℕ} {w v : ℕ} (worse : WorsePopped s cost q t m₀ m₁ w v) where
      pub adding_bridged : length m₁ ≡ room →
          PopBridgedAsks s new (part q.strip q.from w) v (length m₁)
      adding_bridged same = record {
        shed = queued_sheds a.consider.queued (omega arith) worse.order worse.high
            (omega (arith, a.consider.enough, worse.count))
            (λ k below m. (record { first = omega arith; within = m.member.within }, member_index a.consider.readable m.member));
        threes = λ p low high. three p low (omega (arith, worse.high));
      }

      module _ {m₂ : List ℕ} {b u : ℕ}
          (popped : BridgedPopped s new (part q.strip q.from w) v m₁ m₂ b u) where
        bridges_at : BridgesAt s new (part q.strip q.from w)
        bridges_at = record {
          text = text_at s;
          candidate = j;
          each = λ p low high.
              rw a.consider.read
              (bridged_in s.limits s.ends s.best (begins s.limits s.measure) j (get_or q.strip (p + 1) 0)
              (get_or q.strip p 0)
              (rw a.consider.read at (three p low (omega (arith, worse.high)))));
        }

        place : b < length q.strip
        place = omega (arith, a.consider.queued.place, a.consider.later, worse.high, popped.high)

        room_left : u < room
        room_left = omega (arith, a.consider.enough, worse.count, worse.order, popped.count, popped.order, popped.high)

        pub adding_done : {n : List ℕ} → length m₀ ≡ room → length m₂ ≡ room → n ≡ set m₂ u (code (move Add j)) →
            Adds s j q t m₀ (b + 1) (u + 1) (set q.strip b j) n
        unfolding add new_at bridges_at
        adding_done {n} same same₂ put =
            let rest = reverse (listed (part q.strip q.from b)) in
            let stands = slice_push q.from b q.strip j popped.order
            place in
            record {
              low = omega (arith, popped.order);
              high = omega (arith, worse.high, popped.high);
              same = length-set q.strip b j;
              ran = λ i before.
                  let pops = joined_ran (pop_worse (text_at s) i j (reverse (listed q))) (pop_bridged (text_at s) j) t m₀ m₁ v
                  (reverse (listed (part q.strip q.from w))) (worse.ran (new_at i before)) m₂ u rest
                  (omega (arith, a.consider.enough)) (popped.ran bridges_at) in
                  let all =
                  joined_ran (joined (pop_worse (text_at s) i j (reverse (listed q))) (pop_bridged (text_at s) j)) (added j) t m₀ m₂
                  u rest
                  pops n (u + 1) (reverse (j ∷ rest)) (omega (arith, a.consider.enough))
                  (ran_move (omega (arith, room_left)) put) in
                  rw stands all;
            }
