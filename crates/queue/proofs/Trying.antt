-- The candidates, one after the other. Assumes nothing.
use Prim.Native.Nat.{ℕ, ◌+◌, ◌-◌, ◌*◌, ◌^◌, ◌≤◌, ◌<◌}
use mathlib.Core.Path.{◌≡◌, refl, ap, subst, ◌∙◌}
use mathlib.Core.Logic.{◌⊎◌, ⊎_elim}
use mathlib.Core.List.{List}
use native.Mathlib.Omega.{arith}
use borrow.Author.Tests.{eq-eqb}
use lib.ListN.{length, get_or}
use lib.Seq.{length-slice}
use Rattle.laws.specs.Cost.{Has}
use Rattle.laws.specs.Members.{Every, every_map, Falls}
use Rattle.laws.specs.Part.{Part, part, listed}
use Rattle.paper.specs.Moves.{Taken}
use Rattle.paper.specs.QueueRules.{consider, candidates}
use Rattle.queue_theory.proofs.Turns.{consider_gives, candidates_more, candidates_stop}
use Rattle.queue_theory.proofs.Leaves.{add_every, add_falls}
use Rattle.queue_theory.proofs.Count.{consider_count}
use Rattle.lines.specs.declared.Break.{Break}
use Rattle.lines.specs.Held.{begins, break_in, text_in}
use Rattle.lines.specs.Asks.{costliest, Indexed}
use Rattle.lines.specs.Tests.{line_in, no_line_in}
use Rattle.strips.specs.Costs.{cost_of}
use Rattle.strips.specs.Running.{Running, running_first, running_same, running_rule, running_done, running_length}
use Rattle.queue.specs.Asks.{Start, text_at, Inside, Queued, Considers, CandidatesAsk, CandidatesLeave}

-- at the candidate j the queue ends at place r of the strip Q
pub record Trying (s : Start) (i : ℕ) (q : Part) (c t : ℕ) (m₀ Q m : List ℕ) (r j u : ℕ) : Type 0 where
  pub run : Running (candidates (text_at s) i c (listed q)) (candidates (text_at s) i j (listed (part Q q.from r))) t m₀ m u
  pub queued : Queued (Inside s) (part Q q.from r) j
  pub near : i ≤ j
  pub same : length Q ≡ length q.strip
  pub enough : u + (r - q.from) + 2 * (j - 1) ≤ length m₀

module _ {s : Start} {i : ℕ} {q : Part} {c t : ℕ} {m₀ : List ℕ} (a : CandidatesAsk s i q c t (length m₀)) where
  pub trying_first : Trying s i q c t m₀ q.strip m₀ q.to c t
  trying_first = record {
    run = running_first (candidates (text_at s) i c (listed q)) t m₀ (omega (arith, a.enough));
    queued = a.queued;
    near = a.near;
    same = refl;
    enough = a.enough;
  }

  module _ {Q m : List ℕ} {r j u : ℕ} (g : Trying s i q c t m₀ Q m r j u) where
    abbrev now : Part
    now = part Q q.from r

    done : (text_at s).lines.line i j < s.limits.lmin → CandidatesLeave s i q c t m₀ m (part Q q.from r) j u
    unfolding text_in
    done short = record {
      same = g.same;
      queued = g.queued;
      near = g.near;
      ran = running_done _ t m₀ m u (record { queue = listed now; candidate = j })
          (running_same _ t m₀ m u (candidates_stop (text_at s) i j (listed now) short) g.run);
    }

    -- the candidate is the start itself, or before it
    pub trying_end : j ≤ i → CandidatesLeave s i q c t m₀ m (part Q q.from r) j u
    trying_end h =
        done (omega (
          arith,
          no_line_in s.limits s.ends s.best
              (begins s.limits s.measure) i j h,
          a.readable.ranges.lmin_low,
        ))

    module _ (after : i < j) where
      pub trying_index : Indexed s.ends j
      trying_index = record { first = omega arith; within = omega (arith, g.queued.place, g.same, a.readable.ends) }

      line : (text_at s).lines.line i j ≡ get_or s.ends (j - 1) 0 - begins s.limits s.measure
      line = line_in s.limits s.ends s.best (begins s.limits s.measure) i j after

      known : (get_or s.best (j - 1) 0 ≡ 2 ^ 64 - 1) ⊎ (get_or s.best (j - 1) 0 < costliest)
      known = a.known j after (omega (arith, trying_index.within, a.readable.ends, a.readable.bests))

      module _ {new : Break} (read : new ≡ break_in s.ends s.best j) where
        end_is : new.end ≡ get_or s.ends (j - 1) 0
        end_is = ap (λ (b : Break). b.end) read

        -- its line is too short
        pub trying_stop : new.end < s.measure.near → CandidatesLeave s i q c t m₀ m (part Q q.from r) j u
        trying_stop short = done (omega (arith, line, end_is, a.readable.placed.near))

        module _ (reach : s.measure.near ≤ new.end) where
          -- if it is added it is inside the measure
          inside : (text_at s).lines.line i j ≤ s.limits.lmax → Has ((text_at s).best j) → Inside s j
          unfolding text_in cost_of
          inside high has = record {
            member = record {
              within = trying_index.within;
              reach = omega (arith, end_is);
              number = ⊎_elim (λ e. absurd (rw (eq-eqb (get_or s.best (j - 1) 0) (2 ^ 64 - 1) e) at has)) (λ h. h) known;
            };
            high = omega (arith, line, a.readable.placed.far);
          }

          abbrev After : (List ℕ → Type 0) → Type 0
          After P = P (consider (text_at s) i j (listed now)).stands

          keeps : (P : ℕ → Type 0) → Every P (listed now) → (Inside s j → P j) → After (Every P)
          unfolding text_in
          keeps P every one =
              consider_gives (text_at s) i j (listed now) (λ (t : Taken (List ℕ)). Every P t.stands) (λ pass. every)
              (λ high has. add_every (text_at s) i j (listed now) P (one (inside high has)) every)

          falls : After Falls
          falls =
              consider_gives (text_at s) i j (listed now) (λ (t : Taken (List ℕ)). Falls t.stands) (λ pass. g.queued.falls)
              (λ high has. add_falls (text_at s) i j (listed now) g.queued.below g.queued.falls)

          pub trying_more : {o v : ℕ} {Q' n : List ℕ} → Considers s j now u m o v Q' n →
              Trying s i q c t m₀ Q' n o (j - 1) v
          unfolding text_in
          trying_more {o} {v} {Q'} {n} d =
              let rule : Taken (List ℕ) = consider (text_at s) i j (listed now) in
              let ran = d.ran i after in
              let standing : o ≤ length Q' = omega (arith, d.high, d.same, g.queued.place, a.first) in
              let count = consider_count (text_at s) i j (listed now) in
              let stood : length (listed now) ≡ r - q.from = length-slice q.from r Q g.queued.standing in
              let stands : length rule.stands ≡ o - q.from = ap length ran.stands ∙ length-slice q.from o Q' standing in
              let room : v + (o - q.from) + 2 * (j - 1 - 1) ≤ length m₀ = omega (arith, ran.count, g.enough, a.first) in
              let lower = every_map (λ (k : ℕ). j < k) (λ (k : ℕ). j - 1 < k) (λ k h. omega arith) (listed now) g.queued.below in
              record {
                run = running_rule _ t m₀ m u rule (candidates (text_at s) i (j - 1)) n v (listed (part Q' q.from o))
                    (running_same _ t m₀ m u
                    (candidates_more (text_at s) i (j - 1) j (listed now) (omega arith)
                    (omega (arith, line, end_is, a.readable.placed.near)))
                    g.run)
                    ran (omega (arith, room));
                queued = record {
                  order = d.low;
                  standing = standing;
                  each = subst (Every (Inside s)) ran.stands (keeps (Inside s) g.queued.each (λ z. z));
                  falls = subst Falls ran.stands falls;
                  below = subst (Every (λ (k : ℕ). j - 1 < k)) ran.stands (keeps (λ (k : ℕ). j - 1 < k) lower (λ z. omega arith));
                  place = omega (arith, d.high, d.same, g.queued.place);
                };
                near = omega arith;
                same = d.same ∙ g.same;
                enough = room;
              }
