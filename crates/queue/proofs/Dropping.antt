-- Rules 1 and 3, one turn of each, in the values that the code has at hand. Assumes nothing.
use Prim.Native.Nat.{ℕ, ◌+◌, ◌-◌, ◌^◌, ◌≤◌, ◌<◌}
use mathlib.Core.Path.{◌≡◌, ◌∙◌}
use mathlib.Core.List.{List, ◌∷◌}
use native.Mathlib.Omega.{arith}
use lib.ListN.{length, get_or, set}
use lib.Seq.{slice}
use Rattle.laws.specs.Part.{Part, part, listed, part_front, part_none}
use Rattle.paper.specs.declared.Kind.TheVariants.{Drop}
use Rattle.paper.specs.Moves.{code, move}
use Rattle.paper.specs.QueueRules.{F, drop_long, drop_worse}
use Rattle.paper.specs.Strips.{best_entry}
use Rattle.queue_theory.proofs.Turns.{drop_long_more, drop_long_stop, drop_worse_more, drop_worse_stop}
use Rattle.lines.specs.Asks.{Indexed}
use Rattle.queue.specs.Asks.{ShedAsks, LongAt, LongDropped, Start, through_at, Costed, CostsAt, WorseDropped}
use Rattle.queue.proofs.Shedding.{Shedding, shed_first, shed_front, shed_done}

-- ---- rule 1: the front has come to place r, and x is where a line to it ends
abbrev pub LongDropping : List ℕ → ℕ → Part → ℕ → List ℕ → List ℕ → ℕ → ℕ → Type 0
LongDropping E far q t m₀ m r =
    Shedding (λ (y : LongAt E far q) (p : Part). drop_long y.text y.start (listed p)) q (part q.strip r q.to) t m₀ m

module _ {E : List ℕ} {far : ℕ} {q : Part} {t : ℕ} {m₀ m : List ℕ} {r u : ℕ}
    (asks : ShedAsks (Indexed E) q t (length m₀)) (inv : LongDropping E far q t m₀ m r u) where
  pub long_more : {x : ℕ} {n : List ℕ} → r < q.to → x ≡ get_or E (get_or q.strip r 0 - 1) 0 → far < x →
      n ≡ set m u (code (move Drop (get_or q.strip r 0))) → LongDropping E far q t m₀ n (r + 1) (u + 1)
  long_more some is long put =
      shed_front asks inv some put (λ y.
      rw (part_front q.strip asks.standing some)
      (drop_long_more y.text y.start (get_or q.strip r 0) (slice (r + 1) q.to q.strip)
      ((y.each r inv.low some).long (rw is at long))))

  pub long_stop : {x : ℕ} → r < q.to → x ≡ get_or E (get_or q.strip r 0 - 1) 0 → x ≤ far → LongDropped E far q t m₀ m r u
  long_stop some is short = record {
    dropped = shed_done asks inv (λ y.
        rw (part_front q.strip asks.standing some)
        (drop_long_stop y.text y.start (get_or q.strip r 0) (slice (r + 1) q.to q.strip)
        ((y.each r inv.low some).short (rw is at short))));
    short = λ h. rw is at short;
  }

  pub long_none : q.to ≤ r → LongDropped E far q t m₀ m r u
  unfolding drop_long
  long_none none = record {
    dropped = shed_done asks inv (λ y. rw (part_none q.strip asks.standing none));
    short = λ h. absurd (omega arith);
  }

-- ---- rule 3: the front has come to place r, and costs `cost`
abbrev WorseDropping : Start → Part → ℕ → List ℕ → List ℕ → ℕ → ℕ → Type 0
WorseDropping s q t m₀ m r u =
    Shedding (λ (y : CostsAt s q) (p : Part). drop_worse y.text y.start (listed p)) q (part q.strip r q.to) t m₀ m u

-- what break k costs, and that it is a number
abbrev Costs : Start → ℕ → ℕ → Type 0
Costs s k cost = (cost ≡ through_at s k) × (cost < 2 ^ 64 - 1)

pub record Leading (s : Start) (q : Part) (t : ℕ) (m₀ m : List ℕ) (r u cost : ℕ) : Type 0 where
  pub shed : WorseDropping s q t m₀ m r u
  pub some : r < q.to
  pub is : Costs s (get_or q.strip r 0) cost

module _ {s : Start} {q : Part} {t : ℕ} {m₀ : List ℕ}
    (asks : ShedAsks (Costed s) q t (length m₀)) where
  pub lead_first : {cost : ℕ} → q.from < q.to → Costs s (get_or q.strip q.from 0) cost →
      Leading s q t m₀ m₀ q.from t cost
  lead_first some is = record { shed = shed_first asks; some = some; is = is }

  -- with an empty queue there is no setting
  pub lead_empty : q.to ≤ q.from → WorseDropped s q t m₀ m₀ q.from (2 ^ 64 - 1) t
  unfolding drop_worse best_entry
  lead_empty none =
      let e = part_none q.strip asks.standing none in
      let all : WorseDropping s q t m₀ m₀ q.from t = shed_first asks in
      record { dropped = shed_done asks all (λ y. rw e); is = λ y. rw e; number = λ h. absurd (omega arith) }

  module _ {m : List ℕ} {r u cost : ℕ} (inv : Leading s q t m₀ m r u cost) where
    first : slice r q.to q.strip ≡ get_or q.strip r 0 ∷ slice (r + 1) q.to q.strip
    first = part_front q.strip asks.standing inv.some

    two : r + 1 < q.to →
        slice r q.to q.strip ≡ get_or q.strip r 0 ∷ get_or q.strip (r + 1) 0 ∷ slice (r + 1 + 1) q.to q.strip
    two more = rw (first, part_front q.strip asks.standing more)

    front_cost : (y : CostsAt s q) → cost ≡ F y.text y.start (get_or q.strip r 0)
    front_cost y = inv.is.0 ∙ y.each r inv.shed.low inv.some

    module _ {second : ℕ} (more : r + 1 < q.to) (is : Costs s (get_or q.strip (r + 1) 0) second) where
      second_cost : (y : CostsAt s q) → second ≡ F y.text y.start (get_or q.strip (r + 1) 0)
      second_cost y = is.0 ∙ y.each (r + 1) (omega (arith, inv.shed.low)) more

      pub lead_more : {n : List ℕ} → second ≤ cost → n ≡ set m u (code (move Drop (get_or q.strip r 0))) →
          Leading s q t m₀ n (r + 1) (u + 1) second
      lead_more le put = record {
        shed = shed_front asks inv.shed inv.some put (λ y.
            rw (two more, part_front q.strip asks.standing more)
            (drop_worse_more y.text y.start (get_or q.strip r 0) (get_or q.strip (r + 1) 0) (slice (r + 1 + 1) q.to q.strip)
            (rw (front_cost y, second_cost y) at le)));
        some = more;
        is = is;
      }

      pub lead_stop : cost < second → WorseDropped s q t m₀ m r cost u
      unfolding best_entry
      lead_stop lt = record {
        dropped = shed_done asks inv.shed (λ y.
            rw (two more)
            (drop_worse_stop y.text y.start (get_or q.strip r 0) (get_or q.strip (r + 1) 0) (slice (r + 1 + 1) q.to q.strip)
            (rw (front_cost y, second_cost y) at lt)));
        is = λ y. rw first (front_cost y);
        number = λ h. omega (arith, inv.is.1);
      }

    pub lead_none : q.to ≤ r + 1 → WorseDropped s q t m₀ m r cost u
    unfolding drop_worse best_entry
    lead_none none = record {
      dropped = shed_done asks inv.shed (λ y. rw (first, part_none q.strip asks.standing none));
      is = λ y. rw first (front_cost y);
      number = λ h. omega (arith, inv.is.1);
    }
