-- The two pops of rule 2, one turn of each, in the values that the code has at hand: the rear has come down to place r. Assumes nothing.
use Prim.Native.Nat.{ℕ, ◌+◌, ◌-◌, ◌≤◌, ◌<◌}
use mathlib.Core.Path.{◌≡◌, ap, sym, ◌∙◌}
use mathlib.Core.Bool.{Bool, true, false}
use mathlib.Core.Logic.{⊎_elim}
use mathlib.Core.List.{List, [], ◌∷◌, reverse}
use native.Mathlib.Omega.{arith}
use lib.ListN.{length, get_or, set}
use lib.Seq.{slice}
use Rattle.laws.specs.Number.{split}
use Rattle.laws.specs.Part.{Part, part, listed, part_rear, part_none}
use Rattle.paper.specs.declared.Kind.TheVariants.{Pop}
use Rattle.paper.specs.Moves.{code, move}
use Rattle.paper.specs.QueueRules.{F, bridged, pop_worse, pop_bridged}
use Rattle.queue_theory.proofs.Turns.{pop_worse_more, pop_worse_stop, pop_bridged_more, pop_bridged_stop}
use Rattle.lines.specs.declared.Break.{Break}
use Rattle.lines.specs.Held.{bridged_at}
use Rattle.queue.specs.Asks.{Start, break_at, through_at, Costed, ShedAsks, NewAt, WorsePopped, PopBridgedAsks, BridgesAt, BridgedPopped}
use Rattle.queue.proofs.Shedding.{Shedding, shed_rear, shed_done}

-- ---- "Pop the rear while F(i, candidate) ≤ F(i, rear)": they cost `cost` and x
abbrev pub WorsePopping : Start → ℕ → Part → ℕ → List ℕ → List ℕ → ℕ → ℕ → Type 0
WorsePopping s cost q t m₀ m r u =
    Shedding (λ (z : NewAt s cost q) (p : Part). pop_worse z.costs.text z.costs.start z.candidate (reverse (listed p)))
    q (part q.strip q.from r) t m₀ m u

module _ {s : Start} {cost : ℕ} {q : Part} {t : ℕ} {m₀ m : List ℕ} {r u : ℕ}
    (asks : ShedAsks (Costed s) q t (length m₀)) (inv : WorsePopping s cost q t m₀ m r u) where
  standing : r ≤ length q.strip
  standing = omega (arith, inv.high, asks.standing)

  rear : q.from < r → reverse (slice q.from r q.strip) ≡ get_or q.strip (r - 1) 0 ∷ reverse (slice q.from (r - 1) q.strip)
  rear = part_rear q.strip standing

  module _ {x : ℕ} (some : q.from < r) (is : x ≡ through_at s (get_or q.strip (r - 1) 0)) where
    rear_cost : (z : NewAt s cost q) → x ≡ F z.costs.text z.costs.start (get_or q.strip (r - 1) 0)
    rear_cost z = is ∙ z.costs.each (r - 1) (omega arith) (omega (arith, inv.high))

    pub worse_more : {n : List ℕ} → cost ≤ x → n ≡ set m u (code (move Pop (get_or q.strip (r - 1) 0))) →
        WorsePopping s cost q t m₀ n (r - 1) (u + 1)
    worse_more le put =
        shed_rear asks inv some put (λ z.
        rw (rear some)
        (pop_worse_more z.costs.text z.costs.start z.candidate (get_or q.strip (r - 1) 0)
        (reverse (slice q.from (r - 1) q.strip))
        (rw (z.is, rear_cost z) at le)))

    pub worse_stop : x < cost → WorsePopped s cost q t m₀ m r u
    worse_stop lt =
        shed_done asks inv (λ z.
        rw (rear some)
        (pop_worse_stop z.costs.text z.costs.start z.candidate (get_or q.strip (r - 1) 0)
        (reverse (slice q.from (r - 1) q.strip))
        (rw (z.is, rear_cost z) at lt)))

  pub worse_none : r ≤ q.from → WorsePopped s cost q t m₀ m r u
  unfolding pop_worse
  worse_none none = shed_done asks inv (λ z. rw (part_none q.strip standing none))

-- ---- "Pop the rear while two or more stand and the rear is bridged": k and n are the rear and its neighbour, b whether it is bridged
abbrev pub BridgedPopping : Start → Break → Part → ℕ → List ℕ → List ℕ → ℕ → ℕ → Type 0
BridgedPopping s new q t m₀ m r u =
    Shedding (λ (z : BridgesAt s new q) (p : Part). pop_bridged z.text z.candidate (reverse (listed p)))
    q (part q.strip q.from r) t m₀ m u

module _ {s : Start} {new : Break} {q : Part} {t : ℕ} {m₀ m : List ℕ} {r u : ℕ}
    (asks : PopBridgedAsks s new q t (length m₀)) (inv : BridgedPopping s new q t m₀ m r u) where
  within : r ≤ length q.strip
  within = omega (arith, inv.high, asks.shed.standing)

  last : q.from < r → reverse (slice q.from r q.strip) ≡ get_or q.strip (r - 1) 0 ∷ reverse (slice q.from (r - 1) q.strip)
  last = part_rear q.strip within

  module _ (more : q.from + 1 < r) where
    next : reverse (slice q.from (r - 1) q.strip) ≡ get_or q.strip (r - 1 - 1) 0 ∷ reverse (slice q.from (r - 1 - 1) q.strip)
    next = part_rear q.strip {f = q.from} {e = r - 1} (omega (arith, within)) (omega arith)

    rear_two : reverse (slice q.from r q.strip) ≡
        get_or q.strip (r - 1) 0 ∷ get_or q.strip (r - 1 - 1) 0 ∷ reverse (slice q.from (r - 1 - 1) q.strip)
    rear_two = last (omega arith) ∙ ap (λ (p : List ℕ). get_or q.strip (r - 1) 0 ∷ p) next

    module _ {k n : Break} (at_rear : k ≡ break_at s (get_or q.strip (r - 1) 0))
        (before : n ≡ break_at s (get_or q.strip (r - 1 - 1) 0)) where
      tested : {b : Bool} (c : Bool) → b ≡ bridged_at s.limits new k n → b ≡ c → (z : BridgesAt s new q) →
          bridged z.text z.candidate (get_or q.strip (r - 1) 0) (get_or q.strip (r - 1 - 1) 0) ≡ c
      tested c is e z =
          let up : r - 1 - 1 + 1 ≡ r - 1 = omega arith in
          let same = z.each (r - 1 - 1) (omega arith) (omega (arith, inv.high)) in
          sym (rw up at same) ∙ sym (rw (at_rear, before) at is) ∙ e

      pub bridge_more : {b : Bool} {o : List ℕ} → b ≡ bridged_at s.limits new k n → b ≡ true →
          o ≡ set m u (code (move Pop (get_or q.strip (r - 1) 0))) →
          BridgedPopping s new q t m₀ o (r - 1) (u + 1)
      bridge_more is holds put =
          shed_rear asks.shed inv (omega arith) put (λ z.
          rw (rear_two, next)
          (pop_bridged_more z.text z.candidate (get_or q.strip (r - 1) 0) (get_or q.strip (r - 1 - 1) 0)
          (reverse (slice q.from (r - 1 - 1) q.strip)) (tested true is holds z)))

      pub bridge_stop : {b : Bool} → b ≡ bridged_at s.limits new k n → b ≡ false → BridgedPopped s new q t m₀ m r u
      bridge_stop is fails =
          shed_done asks.shed inv (λ z.
          rw rear_two
          (pop_bridged_stop z.text z.candidate (get_or q.strip (r - 1) 0) (get_or q.strip (r - 1 - 1) 0)
          (reverse (slice q.from (r - 1 - 1) q.strip)) (tested false is fails z)))

  pub bridge_none : r ≤ q.from + 1 → BridgedPopped s new q t m₀ m r u
  unfolding pop_bridged
  bridge_none none =
      let before : slice q.from (r - 1) q.strip ≡ [] =
      part_none q.strip {f = q.from} {e = r - 1} (omega (arith, within)) (omega arith) in
      shed_done asks.shed inv (λ z.
      ⊎_elim
      (λ g. rw (part_none q.strip within g))
      (λ g. rw (last g, before))
      (split r q.from))
