-- One turn of the loop over the starts, from n down to 0. Assumes nothing.
use Rattle.std.proofs.Common.{◌≡◌, ap, subst, ℕ, suc, ◌+◌, ◌-◌, ◌*◌, ◌≤◌, List, length, take, drop, arith, length-take, length-drop}
use Rattle.paper.specs.declared.PageLimits.{PageLimits}
use Rattle.paper.specs.Allowed.{page_limits_hold}
use Rattle.paper.specs.Index as Index
use Rattle.paper.specs.Moves.{Taken, joined}
use Rattle.paper.specs.PointerRules.{pages_of, Pointing, after_starts}
use Rattle.pointer_theory.specs.Ready.{PointerReady}
use Rattle.pointer_theory.proofs.Ready.{ready_at}
use Rattle.pointer_theory.proofs.Count.{starts_count}
use Rattle.strips.specs.Filling.{Entered, entered_more}
use Rattle.strips.specs.Words.{words_of, Holds}
use Rattle.pointer.specs.Held.{PageBests, bests_more}
use Rattle.pointer.specs.declared.start.Start.{Start}
use Rattle.pointer.specs.Asks.{StartStrips, pointing, text_of, starting, ApplyAsk, Applied}
use Rattle.pointer.proofs.Gaps.{start_size}
use Rattle.pointer.specs.declared.Came.{Came}
use Rattle.strips.specs.Running.{Ran, ran_length, ran_lent, joined_room, joined_ran}
use borrow.Rule.Slice.PartMut.{put_mid}

-- what stands once the starts down to i are done
abbrev pub so_far : PageLimits → List ℕ → ℕ → Taken Pointing
so_far l ws i = after_starts (pages_of l ws) (length ws) (length ws + 1 - i)

-- the starts down to i are done
pub record Paging (l : PageLimits) (S m₀ m : List ℕ) (taken : ℕ) (t : StartStrips) (i r : ℕ) : Type 0 where
  pub held : Holds (page_limits_hold l) 0 S
  pub low : i ≤ length S
  pub room : 2 * length (words_of S) ≤ length m₀
  pub ran : Ran (so_far l (words_of S) i) 0 m₀ m taken (pointing r t)
  pub bests : PageBests l (words_of S) t.best i
  pub nexts : Entered (Index.chosen_next l (words_of S)) 0 (length (words_of S)) i t.next

-- ---- the moves taken so far
module _ {l : PageLimits} {S m₀ m : List ℕ} {taken : ℕ} {t : StartStrips} {i r : ℕ} (g : Paging l S m₀ m taken t i r) where
  taken_fit : taken ≤ length m₀
  taken_fit = omega (arith, starts_count l (words_of S) (length (words_of S) + 1 - i), g.ran.count, g.room)

  pub paging_length : length m ≡ length m₀
  paging_length = ran_length (so_far l (words_of S) i) 0 m₀ m taken (pointing r t) g.ran taken_fit

  pub paging_began : taken ≤ length m
  paging_began = omega (arith, taken_fit, paging_length)

-- ---- one start, s
module _ (s : Start) {m₀ m : List ℕ} {taken : ℕ} {t : StartStrips} {i r : ℕ} (g : Paging s.limits s.sums.now m₀ m taken t i r)
    (next : suc s.i ≡ i) where
  abbrev ws : List ℕ
  ws = text_of s

  abbrev done : Taken Pointing
  done = so_far s.limits ws i

  low : s.i ≤ length ws
  low = omega (arith, g.low, start_size s)

  turn : so_far s.limits ws s.i ≡ joined done (starting s)
  unfolding after_starts
  turn =
      let z : length ws - (length ws + 1 - i) ≡ s.i = omega (arith, low) in
      let y : length ws + 1 - s.i ≡ suc (length ws + 1 - i) = omega (arith, low) in
      rw (y, z)

  room : 0 + length (joined done (starting s)).moves ≤ length m₀
  room =
      let all = ap (λ (u : Taken Pointing). length u.moves) turn in
      omega (arith, starts_count s.limits ws (length ws + 1 - s.i), g.room)

  -- what is left of the strip, which the start is lent
  left_over : taken + length (starting s (pointing r t)).moves ≤ length m₀
  left_over = joined_room done (starting s) 0 m₀ m taken (pointing r t) g.ran room

  abbrev own : List ℕ
  own = take (length m - taken) (drop taken m)

  pub paging_ask : ApplyAsk s r t own
  paging_ask = record {
    ready =
        subst (PointerReady s.limits ws s.i) g.ran.stands
        (ready_at s.limits ws (length ws + 1 - i) s.i (omega (arith, low)));
    bests = rw next g.bests;
    next_size = omega (arith, g.nexts.size, start_size s);
    room = omega (arith, left_over, paging_length g, length-take (length m - taken) (drop taken m), length-drop taken m);
  }

  -- the start's moves, in what it was lent
  module _ {came : Came} {u : StartStrips} {M : List ℕ} (d : Applied s r t own came u M) where
    pub paging_fits : taken + came.moves ≤ length m₀
    paging_fits = omega (arith, left_over, d.ran.count)

    pub paging_next : Paging s.limits s.sums.now m₀ (put_mid taken (length m - taken) m M) (taken + came.moves) u s.i came.at
    paging_next = record {
      held = g.held;
      low = omega (arith, g.low);
      room = g.room;
      ran =
          rw turn
          (joined_ran done (starting s) 0 m₀ m taken (pointing r t) g.ran _ _ _ (omega arith)
          (ran_lent (starting s (pointing r t)) taken m M came.moves _ (paging_began g) d.ran));
      bests = bests_more g.bests s.i u.best (omega arith) low d.best;
      nexts = entered_more g.nexts s.i s.i u.next (omega arith) low (omega arith) d.next;
    }
