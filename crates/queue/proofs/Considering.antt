-- A candidate is passed, or added. Assumes nothing.
use Prim.Native.Nat.{ℕ, ◌+◌, ◌-◌, ◌^◌, ◌≤◌, ◌<◌}
use mathlib.Core.Path.{◌≡◌, refl, ap}
use mathlib.Core.Logic.{⊎_elim}
use mathlib.Core.List.{List}
use native.Mathlib.Omega.{arith}
use borrow.Author.Tests.{eq-eqb}
use lib.ListN.{length, get_or, set}
use Rattle.laws.specs.Part.{Part, listed}
use Rattle.paper.specs.declared.Kind.TheVariants.{Pass}
use Rattle.paper.specs.Moves.{code, move, moved, still}
use Rattle.paper.specs.QueueRules.{consider}
use Rattle.queue_theory.proofs.Turns.{consider_long, consider_none, consider_add}
use Rattle.lines.specs.declared.Break.{Break}
use Rattle.lines.specs.Held.{text_in}
use Rattle.lines.specs.Asks.{costliest}
use Rattle.strips.specs.Costs.{cost_of, cost_number}
use Rattle.strips.specs.Single.{ran_move}
use Rattle.queue.specs.Asks.{Start, text_at, ConsiderAsks, Adds, Considers}
use Rattle.queue.proofs.Members.{past_in}

module _ {s : Start} {j : ℕ} {new : Break} {q : Part} {t room : ℕ} (a : ConsiderAsks s j new q t room) where
  end_is : new.end ≡ get_or s.ends (j - 1) 0
  end_is = ap (λ (b : Break). b.end) a.read

  best_is : new.best ≡ get_or s.best (j - 1) 0
  best_is = ap (λ (b : Break). b.best) a.read

  module _ (high : new.end ≤ s.measure.far) (other : new.best ≡ 2 ^ 64 - 1 → ⊥) where
    number : new.best < costliest
    number = ⊎_elim (λ h. absurd (other h)) (λ h. h) a.known

    pub considering_done : {m₀ : List ℕ} {e u : ℕ} {Q m : List ℕ} → Adds s j q t m₀ e u Q m → Considers s j q t m₀ e u Q m
    unfolding text_in
    considering_done d = record {
      low = d.low;
      high = d.high;
      same = d.same;
      ran = λ i before.
          rw (consider_add (text_at s) i j (listed q)
          ((past_in a.readable i j before).short (omega (arith, end_is)))
          (rw (cost_number (get_or s.best (j - 1) 0) (omega (arith, number, best_is))) tt))
          (d.ran i before);
    }

  module _ {m₀ m : List ℕ} (room_is : length m₀ ≡ room) (put : m ≡ set m₀ t (code (move Pass j))) where
    passed : ((i : ℕ) → i < j → consider (text_at s) i j (listed q) ≡ moved (move Pass j) (still (listed q))) →
        Considers s j q t m₀ q.to (t + 1) q.strip m
    passed rule = record {
      low = a.queued.order;
      high = omega arith;
      same = refl;
      ran = λ i before. rw (rule i before) (ran_move (omega (arith, a.enough)) put);
    }

    pub considering_long : s.measure.far < new.end → Considers s j q t m₀ q.to (t + 1) q.strip m
    considering_long long =
        passed (λ i before. consider_long (text_at s) i j (listed q) ((past_in a.readable i j before).long (omega (arith, end_is))))

    pub considering_none : new.best ≡ 2 ^ 64 - 1 → Considers s j q t m₀ q.to (t + 1) q.strip m
    unfolding text_in cost_of
    considering_none none =
        passed (λ i before. consider_none (text_at s) i j (listed q)
        (λ h. rw (eq-eqb (get_or s.best (j - 1) 0) (2 ^ 64 - 1) (omega (arith, best_is))) at h))
