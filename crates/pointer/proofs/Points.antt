-- The steps, and then the jumps. Assumes nothing.
use Rattle.std.proofs.Common.{ℕ, suc, ◌≤◌, ◌<◌, List, subst, arith}
use Rattle.paper.specs.PointerRules.{pages_of, pointed}
use Rattle.pointer_theory.proofs.Turns.{steps_by}
use Rattle.pointer_theory.proofs.Ready.{step_above}
use Rattle.pointer.specs.declared.moves.Moves.{Moves}
use Rattle.pointer.specs.declared.start.Start.{Start}
use Rattle.pointer.specs.Taking.{Took}
use Rattle.pointer.specs.Asks.{text_of, pages_at, stepping, jumping, pointing_from, StepsAsk, JumpsAsk}
use Rattle.pointer.proofs.Taking.{room_first, room_next, took_both}

-- the steps stay above the start
steps_between : (s : Start) (r : ℕ) → s.i < r → (s.i < (stepping s r).stands) × ((stepping s r).stands ≤ r)
unfolding pages_of
steps_between s =
    steps_by (pages_at s) s.i (λ r t. s.i < r → (s.i < t.stands) × (t.stands ≤ r))
    (λ r h above. (above, omega arith))
    (λ r t h rest above. let b = rest (omega (arith, step_above s.limits (text_of s) s.i (suc r) above h)) in (b.0, omega (arith, b.1)))

module _ {s : Start} {left : List ℕ} {r : ℕ} {m : Moves} (a : JumpsAsk (pointing_from s left r) s left r m) where
  pub point_steps : StepsAsk (stepping s r) s r m
  unfolding pointed
  point_steps = record { page = a.steps.page; room = room_first (stepping s r) (jumping s left) m a.steps.room }

  -- the steps came to q
  module _ {n : Moves} {q : ℕ} (took : Took (stepping s r) m n q) where
    pub point_jumps : JumpsAsk (jumping s left q) s left q n
    unfolding pointed
    point_jumps =
        let b = subst (λ (z : ℕ). (s.i < z) × (z ≤ r)) took.ran.stands (steps_between s r a.steps.page.above) in
        record {
          steps = record {
            page = record { above = b.0; within = omega (arith, b.1, a.steps.page.within) };
            room = room_next (stepping s r) (jumping s left) m a.steps.room took;
          };
          lefts = a.lefts;
        }

    pub point_done : {k : Moves} {p : ℕ} → Took (jumping s left q) n k p → Took (pointing_from s left r) m k p
    unfolding pointed
    point_done = took_both (stepping s r) (jumping s left) m a.steps.room took
