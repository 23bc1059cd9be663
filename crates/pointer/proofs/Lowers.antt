-- One turn of the loops that lower the pointer: steps and jumps, in the values that the code has at hand. Assumes nothing.
use Rattle.std.proofs.Common.{◌≡◌, ℕ, ◌+◌, ◌-◌, ◌≤◌, ◌<◌, List, length, get_or, arith}
use Rattle.paper.specs.declared.Move.{Move}
use Rattle.paper.specs.declared.Kind.TheVariants.{Step}
use Rattle.paper.specs.Index.{gap}
use Rattle.paper.specs.Moves.{Taken, move, moved, still}
use Rattle.paper.specs.PointerRules.{pages_of, entry_at}
use Rattle.pointer_theory.proofs.Ready.{step_above}
use Rattle.pointer_theory.proofs.Turns.{steps_more, steps_stop, jumps_more, jumps_stop}
use Rattle.pointer.specs.declared.moves.Moves.{Moves}
use Rattle.pointer.specs.declared.start.Start.{Start}
use Rattle.pointer.specs.Taking.{Put, HasRoom, Took}
use Rattle.pointer.specs.Asks.{text_of, pages_at, stepping, jumping, PageTo, StepsAsk, JumpAsk, Jumped}
use Rattle.pointer.proofs.Gaps.{gap_read}
use Rattle.pointer.proofs.Taking.{Taking, taking_first, taking_same, taking_done, taking_place, taking_more}

-- a rule that lowers the pointer from r₀ on, and not below low, has come to r
pub record Lowering (rule : ℕ → Taken ℕ) (low r₀ : ℕ) (m₀ m : Moves) (r : ℕ) : Type 0 where
  pub above : low < r
  pub below : r ≤ r₀
  pub taking : Taking (rule r₀) (rule r) m₀ m

module _ {rule : ℕ → Taken ℕ} {low r₀ : ℕ} {m₀ : Moves} where
  pub lowering_first : low < r₀ → HasRoom (rule r₀) m₀ → Lowering rule low r₀ m₀ m₀ r₀
  lowering_first above room = record { above = above; below = omega arith; taking = taking_first room }

  module _ {m : Moves} {r : ℕ} (lo : Lowering rule low r₀ m₀ m r) where
    pub lowering_done : rule r ≡ still r → Took (rule r₀) m₀ m r
    lowering_done turn = taking_done (taking_same turn lo.taking)

    -- the next turn goes to q
    module _ {mv : Move} {q : ℕ} (turn : rule r ≡ moved mv (rule q)) (room : HasRoom (rule r₀) m₀) where
      pub lowering_place : m.taken < length m.strip.now
      lowering_place = taking_place (taking_same turn lo.taking) room

      pub lowering_more : low < q → q < r → {n : Moves} → Put m mv n → Lowering rule low r₀ m₀ n q
      lowering_more above below put = record {
        above = above;
        below = omega (arith, lo.below);
        taking = taking_more (taking_same turn lo.taking) room put;
      }

-- ---- steps
-- the pointer has come to r, from r₀ on
module _ (s : Start) {r₀ : ℕ} {m₀ m : Moves} (a : StepsAsk (stepping s r₀) s r₀ m₀) {r : ℕ} (lo : Lowering (stepping s) s.i r₀ m₀ m r) where
  reads : get_or s.sums.now s.i 0 + gap (text_of s) s.i r ≡ get_or s.sums.now (r - 1) 0
  reads = gap_read s (record { above = lo.above; within = omega (arith, lo.below, a.page.within) })

  pub steps_done : get_or s.sums.now (r - 1) 0 ≤ s.far → Took (stepping s r₀) m₀ m r
  unfolding pages_of
  steps_done near = lowering_done lo (steps_stop (pages_at s) s.i r (λ pos. omega (arith, reads, s.farthest)))

  module _ (over : s.far < get_or s.sums.now (r - 1) 0) where
    turn : stepping s r ≡ moved (move Step (r - 1)) (stepping s (r - 1))
    unfolding pages_of
    turn = steps_more (pages_at s) s.i r (omega (arith, lo.above)) (omega (arith, reads, s.farthest))

    pub steps_place : m.taken < length m.strip.now
    steps_place = lowering_place lo turn a.room

    pub steps_on : {n : Moves} → Put m (move Step (r - 1)) n → Lowering (stepping s) s.i r₀ m₀ n (r - 1)
    steps_on =
        lowering_more lo turn a.room
        (step_above s.limits (text_of s) s.i r lo.above (omega (arith, reads, s.farthest)))
        (omega (arith, lo.above))

-- ---- jumps
module _ {s : Start} {left : List ℕ} {r : ℕ} (a : JumpAsk s left r) where
  pub jump_none : entry_at left r ≡ 0 → jumping s left r ≡ still r
  jump_none none = jumps_stop (pages_at s) s.i left r r (λ h. absurd (omega arith))

  module _ (has : ¬ (entry_at left r ≡ 0)) where
    pub jump_below : entry_at left r < r
    jump_below = a.lefts.falls r (omega arith)

    pub jump_page : PageTo s (entry_at left r)
    jump_page = record {
      above = a.lefts.from r a.page.above a.page.within (omega arith);
      within = omega (arith, a.page.within, jump_below);
    }

    pub jump_near : get_or s.sums.now (entry_at left r - 1) 0 < s.near → jumping s left r ≡ still r
    unfolding pages_of
    jump_near short = jumps_stop (pages_at s) s.i left r r (λ h. omega (arith, gap_read s jump_page, s.nearest))

    pub jump_on : s.near ≤ get_or s.sums.now (entry_at left r - 1) 0 → Jumped s left r (entry_at left r)
    unfolding pages_of
    jump_on long = record {
      page = jump_page;
      below = jump_below;
      turn = jumps_more (pages_at s) s.i left a.lefts.falls r (omega arith) (omega (arith, gap_read s jump_page, s.nearest));
    }
