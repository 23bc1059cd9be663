-- The three rules of a start, one after the other. Assumes nothing.
use Prim.Native.Nat.{ℕ, ◌+◌, ◌-◌, ◌≤◌, ◌<◌}
use mathlib.Core.Path.{◌≡◌, ap, ◌∙◌}
use mathlib.Core.Logic.{⊎_elim}
use mathlib.Core.List.{List}
use native.Mathlib.Omega.{arith}
use lib.ListN.{length, get_or}
use lib.Seq.{length-slice}
use Rattle.laws.specs.Number.{split}
use Rattle.laws.specs.Part.{Part, part, listed}
use Rattle.paper.specs.Moves.{Taken, still, joined}
use Rattle.paper.specs.QueueRules.{Standing, drop_long, candidates, drop_worse, settled, at_start}
use Rattle.queue_theory.proofs.Count.{candidates_count}
use Rattle.lines.specs.Asks.{Indexed}
use Rattle.strips.specs.Running.{joined_ran}
use Rattle.strips.specs.Single.{ran_still}
use Rattle.queue.specs.declared.Queue.{Queue}
use Rattle.queue.specs.Asks.{ShedAsks, LongAt, LongDropped, CostsAt, WorseDropped, Start, text_at, Member, Inside}
use Rattle.queue.specs.Asks.{Costed, CandidatesAsk, CandidatesLeave, RulesAsk, StartLeaves}
use Rattle.queue.proofs.Members.{member_index, inside_through, past_in, cost_in, queued_each, queued_below, queued_falls}
use Rattle.queue.proofs.Members.{queued_rest, queued_sheds}

module _ {s : Start} {i : ℕ} {q : Part} {c room : ℕ} (a : RulesAsk (Member s) s i q c 0 room) where
  pub starting_long : ShedAsks (Indexed s.ends) q 0 room
  starting_long =
      queued_sheds a.queued (omega arith) a.queued.order (omega arith) (omega (arith, a.enough))
      (λ k below m. (record { first = omega arith; within = m.within }, member_index a.readable m))

  long_at : LongAt s.ends s.measure.far q
  long_at = record {
    text = text_at s;
    start = i;
    each = λ p low high. past_in a.readable i (get_or q.strip p 0) (omega (arith, queued_below a.queued p low high, a.near));
  }

  -- rule 1 left the part from place w on
  module _ {m₀ m₁ : List ℕ} {w u₁ : ℕ} (d : LongDropped s.ends s.measure.far q 0 m₀ m₁ w u₁) where
    abbrev rest : Part
    rest = part q.strip w q.to

    -- the front is the farthest
    inside : (p : ℕ) → w ≤ p → p < q.to → Inside s (get_or q.strip p 0)
    inside p low high =
        let m = queued_each a.queued p (omega (arith, d.dropped.low)) high in
        let front = queued_each a.queued w d.dropped.low (omega arith) in
        let after : get_or q.strip p 0 ≤ get_or q.strip w 0 =
        ⊎_elim
        (λ h. let e : p ≡ w = omega arith in rw e (omega arith))
        (λ h. let f = queued_falls a.queued w p d.dropped.low h high in omega arith)
        (split p w) in
        record {
          member = m;
          high = omega (
            arith,
            d.short (omega arith),
            a.readable.rising (get_or q.strip p 0 - 1) (get_or q.strip w 0 - 1)
                (omega arith) (omega (arith, front.within, queued_below a.queued p (omega (arith, d.dropped.low)) high)),
          );
        }

    pub starting_candidates : length m₁ ≡ room → CandidatesAsk s i rest c u₁ (length m₁)
    starting_candidates same = record {
      readable = a.readable;
      known = a.known;
      queued = queued_rest a.queued d.dropped.low d.dropped.order inside;
      first = a.first;
      near = a.near;
      enough = omega (arith, a.enough, d.dropped.count);
    }

    -- rule 2 left the queue up to place r
    module _ {r c₂ u₂ : ℕ} {Q₂ m₂ : List ℕ} (g : CandidatesLeave s i rest c u₁ m₁ m₂ (part Q₂ w r) c₂ u₂) where
      abbrev two : Part
      two = part Q₂ w r

      -- the moves so far, and one for each that stands, have room
      enough : u₂ + (r - w) ≤ room
      enough =
          let count = candidates_count (text_at s) i c (listed rest) in
          let before : length (listed rest) ≡ q.to - w = length-slice w q.to q.strip a.queued.standing in
          let after : length (candidates (text_at s) i c (listed rest)).stands.queue ≡ r - w =
          ap (λ (z : Standing). length z.queue) g.ran.stands ∙ length-slice w r Q₂ g.queued.standing in
          let candidate : (candidates (text_at s) i c (listed rest)).stands.candidate ≡ c₂ =
          ap (λ (z : Standing). z.candidate) g.ran.stands in
          omega (arith, a.enough, d.dropped.count, g.ran.count, g.near, a.first, a.near)

      pub starting_worse : length m₂ ≡ room →
          ShedAsks (Costed s) two u₂ (length m₂)
      starting_worse same =
          queued_sheds g.queued (omega arith) g.queued.order (omega arith)
          (omega (arith, enough))
          (λ k below m. (inside_through a.readable (omega arith) m, member_index a.readable m.member))

      costs_at : CostsAt s two
      costs_at = record {
        text = text_at s;
        start = i;
        each = λ p low high.
            cost_in a.readable i (get_or Q₂ p 0) (omega (arith, queued_below g.queued p low high, g.near))
            (queued_each g.queued p low high);
      }

      -- rule 3 left the part from place f on
      module _ {z : Queue} {m₃ : List ℕ}
          (e : WorseDropped s two u₂ m₂ m₃ z.front z.cost z.moves) where
        pub starting_done : length m₀ ≡ room → length m₂ ≡ room → length m₃ ≡ room → (z.end ≡ r) × (z.candidate ≡ c₂) →
            StartLeaves s i q c m₀ z Q₂ m₃
        unfolding at_start settled long_at costs_at
        starting_done same same₂ same₃ stays =
            let three = part Q₂ z.front r in
            let after : List ℕ → Taken Standing = λ q. still (record { queue = q; candidate = c₂ }) in
            let last = e.dropped.ran costs_at in
            let one = joined_ran (drop_long (text_at s) i (listed q)) (candidates (text_at s) i c) 0 m₀ m₁ u₁ (listed rest)
            (d.dropped.ran long_at) m₂ u₂ (record { queue = listed two; candidate = c₂ }) (omega arith) g.ran in
            let end = joined_ran (drop_worse (text_at s) i (listed two)) after u₂ m₂ m₃ z.moves (listed three) last m₃ z.moves
            (record { queue = listed three; candidate = c₂ }) (omega (arith, enough))
            (ran_still (omega (arith, enough, e.dropped.count))) in
            record {
              left = rw (stays.0, stays.1) (record {
                same = g.same;
                queued = queued_rest g.queued e.dropped.low e.dropped.order
                    (λ p low high. (queued_each g.queued p (omega (arith, e.dropped.low)) high).member);
                near = g.near;
                ran = joined_ran (joined (drop_long (text_at s) i (listed q)) (candidates (text_at s) i c)) (settled (text_at s) i) 0 m₀ m₂
                    u₂
                    (record { queue = listed two; candidate = c₂ }) one m₃ z.moves
                    (record { queue = listed three; candidate = c₂ })
                    (omega arith) end;
              });
              cost = rw stays.0 (e.is costs_at);
              number = rw stays.0 e.number;
            }
