-- A loop that takes members off an end of the queue, a move each: what holds at each turn. Over any rule. Assumes nothing.
use Prim.Native.Nat.{ℕ, ◌+◌, ◌-◌, ◌≤◌, ◌<◌}
use mathlib.Core.Path.{◌≡◌, refl, ap, ◌∙◌}
use mathlib.Core.List.{List}
use native.Mathlib.Omega.{arith}
use lib.ListN.{length, get_or, set, length-set}
use Rattle.laws.specs.Part.{Part, part}
use Rattle.paper.specs.declared.Kind.TheVariants.{Drop, Pop}
use Rattle.paper.specs.declared.Move.{Move}
use Rattle.paper.specs.Moves.{Taken, code, move, moved, still}
use Rattle.strips.specs.Running.{Running, running_first, running_same, running_more, running_done}
use Rattle.queue.specs.Asks.{ShedAsks, Shed}

-- the part q of q₀ is left so far
pub record Shedding {I : Type 0} (rule : I → Part → Taken (List ℕ)) (q₀ q : Part) (t : ℕ) (m₀ m : List ℕ) (u : ℕ) : Type 0 where
  pub low : q₀.from ≤ q.from
  pub order : q.from ≤ q.to
  pub high : q.to ≤ q₀.to
  pub count : u + (q.to - q.from) ≡ t + (q₀.to - q₀.from)
  pub same : length m ≡ length m₀
  pub run : (x : I) → Running (rule x q₀) (rule x q) t m₀ m u

module _ {I : Type 0} {P : ℕ → Type 0} {rule : I → Part → Taken (List ℕ)} {q₀ : Part} {t : ℕ} {m₀ : List ℕ}
    (asks : ShedAsks P q₀ t (length m₀)) where
  pub shed_first : Shedding rule q₀ q₀ t m₀ m₀ t
  shed_first = record {
    low = omega arith;
    order = asks.order;
    high = omega arith;
    count = refl;
    same = refl;
    run = λ x. running_first (rule x q₀) t m₀ (omega (arith, asks.enough));
  }

  module _ {q : Part} {m : List ℕ} {u : ℕ} (inv : Shedding rule q₀ q t m₀ m u) where
    -- a member that is left has room for its move
    shed_room : q.from < q.to → u < length m
    shed_room some = omega (arith, asks.enough, inv.count, inv.same, inv.low, inv.high)

    module _ {n : List ℕ} where
      more : (p : Part) (mv : Move) → q.from ≤ p.from → p.from ≤ p.to → p.to ≤ q.to → p.to - p.from + 1 ≡ q.to - q.from →
          n ≡ set m u (code mv) → ((x : I) → rule x q ≡ moved mv (rule x p)) → Shedding rule q₀ p t m₀ n (u + 1)
      more p mv low order high one put turn = record {
        low = omega (arith, inv.low);
        order = order;
        high = omega (arith, inv.high);
        count = omega (arith, inv.count);
        same = ap length put ∙ length-set m u (code mv) ∙ inv.same;
        run = λ x.
            rw put
            (running_more (rule x q₀) t m₀ m u mv (running_same (rule x q₀) t m₀ m u (turn x) (inv.run x))
            (omega (arith, shed_room (omega arith), inv.same)));
      }

      -- the front, or the rear, has left
      pub shed_front : q.from < q.to → n ≡ set m u (code (move Drop (get_or q.strip q.from 0))) →
          ((x : I) → rule x q ≡ moved (move Drop (get_or q.strip q.from 0)) (rule x (part q.strip (q.from + 1) q.to))) →
          Shedding rule q₀ (part q.strip (q.from + 1) q.to) t m₀ n (u + 1)
      shed_front some = more (part q.strip (q.from + 1) q.to) _ (omega arith) (omega arith) (omega arith) (omega arith)

      pub shed_rear : q.from < q.to → n ≡ set m u (code (move Pop (get_or q.strip (q.to - 1) 0))) →
          ((x : I) → rule x q ≡ moved (move Pop (get_or q.strip (q.to - 1) 0)) (rule x (part q.strip q.from (q.to - 1)))) →
          Shedding rule q₀ (part q.strip q.from (q.to - 1)) t m₀ n (u + 1)
      shed_rear some = more (part q.strip q.from (q.to - 1)) _ (omega arith) (omega arith) (omega arith) (omega arith)

    -- no more leave
    pub shed_done : {a : List ℕ} → ((x : I) → rule x q ≡ still a) → Shed (λ x. rule x q₀) a q₀ q t m₀ m u
    shed_done {a} turn = record {
      low = inv.low;
      order = inv.order;
      high = inv.high;
      count = inv.count;
      ran = λ x. running_done (rule x q₀) t m₀ m u a (running_same (rule x q₀) t m₀ m u (turn x) (inv.run x));
    }
