-- The work on the parts of the strips that are used, said of the whole strips. Assumes nothing.
use Prim.Native.Nat.{ℕ, ◌+◌}
use mathlib.Core.Path.{◌≡◌, ap, ◌∙◌}
use mathlib.Core.List.{List, ◌++◌}
use native.Mathlib.Omega.{arith}
use lib.ListN.{length, take, drop}
use lib.Seq.{length-take-le}
use Rattle.laws.specs.Strip.{over, over_back}
use Rattle.paper.specs.declared.PageLimits.{PageLimits}
use Rattle.paper.specs.Index as Index
use Rattle.paper.specs.Strips.{sums, left_entry, right_entry}
use Rattle.paper_theory.specs.Entries.{length_entries}
use Rattle.strips.specs.Filling.{length_ended}
use Rattle.strips.specs.Words.{words_of, words_of_sums, holds_sums, length_sums, sums_front}
use Rattle.pages.specs.Asks.{PointerStrips, pointer_strips, bests_of, nexts_of, lefts_of, rights_of}
use Rattle.pages.specs.Asks.{PageStartsAsk, PageStarts, PageFillAsk, PageFilled}

module _ {l : PageLimits} {ws S₀ S : List ℕ} {s : PointerStrips} (a : PageFillAsk l ws S₀ s) (filled : S ≡ over (sums ws) S₀) where
  abbrev used : List ℕ → List ℕ
  used = take (length ws + 2)

  pub fill_starts : PageStartsAsk l (take (length ws + 1) S)
      (pointer_strips (used s.best) (used s.next) (used s.left) (used s.right) s.moves)
  fill_starts =
      let size = length_sums ws in
      rw (sums_front ws S₀ S filled)
      (record {
        held = holds_sums a.passed;
        sized = record {
          best = omega (arith, length-take-le (length ws + 2) s.best a.best);
          next = omega (arith, length-take-le (length ws + 2) s.next a.next);
          left = omega (arith, length-take-le (length ws + 2) s.left a.left);
          right = omega (arith, length-take-le (length ws + 2) s.right a.right);
        };
        moves = omega (arith, a.moves);
      })

  -- the parts come back, wholly written
  abbrev back : List ℕ → List ℕ → List ℕ
  back xs ys = xs ++ drop (length ws + 2) ys

  pub fill_done : {taken : ℕ} {t : PointerStrips} → PageStarts l (words_of (take (length ws + 1) S)) s.moves taken t →
      PageFilled l ws S₀ s taken S
      (pointer_strips (back t.best s.best) (back t.next s.next) (back t.left s.left) (back t.right s.right)
      t.moves)
  fill_done {t = t} d =
      let f : words_of (take (length ws + 1) S) ≡ ws = ap words_of (sums_front ws S₀ S filled) ∙ words_of_sums ws in
      let d = rw f at d in
      let k : ℕ = length ws + 2 in
      let nexts = length_ended (Index.chosen_next l ws) 0 (length ws + 1) in
      let lefts = length_entries (left_entry (Index.best l ws)) 1 (length ws + 1) in
      let rights = length_ended (right_entry (Index.best l ws) (length ws)) 1 (length ws) in
      record {
        sums = filled;
        best = over_back (bests_of l ws) t.best s.best k d.best (length_entries _ 0 k);
        next = over_back (nexts_of l ws) t.next s.next k d.next (omega arith);
        left = over_back (lefts_of l ws) t.left s.left k d.left (omega arith);
        right = over_back (rights_of l ws) t.right s.right k d.right (omega arith);
        moves = d.moves;
        count = d.count;
      }
