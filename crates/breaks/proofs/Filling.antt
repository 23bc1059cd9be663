-- The strips filled, from their parts: the sums, the starts, the queue cleared. Assumes nothing but what each law states.
use Prim.Native.Nat.{ℕ, ◌+◌, ◌-◌}
use mathlib.Core.Path.{◌≡◌, ap, ◌∙◌}
use mathlib.Core.List.{List, ◌++◌}
use native.Mathlib.Omega.{arith}
use lib.ListN.{length, get_or, take, drop, replicate, length-replicate}
use lib.Seq.{drop_at, take_at, length-take-le}
use Rattle.laws.specs.Strip.{over, over_take, over_back}
use Rattle.paper.specs.declared.Limits.{Limits}
use Rattle.paper.specs.Paragraph.{chosen_next}
use Rattle.paper.specs.Strips.{sums}
use Rattle.paper_theory.specs.Entries.{length_entries}
use Rattle.strips.specs.Filling.{length_ended}
use Rattle.strips.specs.Words.{words_of_sums, holds_sums, length_sums}
use Rattle.breaks.proofs.Holding.{summed}
use Rattle.breaks.specs.Asks.{Summed, StartsAsk, Starts, SetStarts, best_at, bests, nexts, FillAsks, Filled}

module _ {l : Limits} {ws S₀ B₀ N₀ Q₀ m₀ S : List ℕ} (a : FillAsks l ws S₀ B₀ N₀ Q₀ m₀) (filled : S ≡ over (sums ws) S₀) where
  abbrev n : ℕ
  n = length ws

  exact : take (n + 1) S ≡ sums ws
  exact = ap (take (n + 1)) filled ∙ over_take (sums ws) S₀ (n + 1) (length_sums ws)

  pub filling_sums : Summed l (take (n + 1) S)
  filling_sums = rw exact (summed (holds_sums a.passed))

  pub filling_last : get_or (take (n + 1) S) n 0 ≡ get_or (take (n + 1) S) (length (take (n + 1) S) - 1) 0
  filling_last = let e : length (take (n + 1) S) - 1 ≡ n = omega (arith, ap length exact, length_sums ws) in rw e

  module _ (Q : List ℕ) {B N m : List ℕ} {count : ℕ} (st : Starts l (take (n + 1) S) m₀ count B N m)
      (kept : length Q ≡ length (take n Q₀)) where
    started : SetStarts l ws m₀ count B N m
    started = rw (exact, words_of_sums ws) at st

    queue_back : {F : List ℕ} → F ≡ replicate (length (take n (Q ++ drop n Q₀))) 0 →
        F ++ drop n (Q ++ drop n Q₀) ≡ over (replicate n 0) Q₀
    queue_back {F} zeros =
        let e : length Q ≡ n = kept ∙ length-take-le n Q₀ a.queue in
        let lent : length (take n (Q ++ drop n Q₀)) ≡ n = ap length (take_at Q (drop n Q₀) n e) ∙ e in
        rw (drop_at Q (drop n Q₀) n e)
        (over_back (replicate n 0) F Q₀ n (zeros ∙ ap (λ (k : ℕ). replicate k 0) lent) (length-replicate n 0))

    pub filling_done : {F : List ℕ} → F ≡ replicate (length (take n (Q ++ drop n Q₀))) 0 →
        Filled l ws S₀ B₀ N₀ Q₀ m₀ count S (B ++ drop (n + 1) B₀) (N ++ drop (n + 1) N₀) (F ++ drop n (Q ++ drop n Q₀)) m
    filling_done zeros = record {
      sums = filled;
      best = over_back (bests l ws) B B₀ (n + 1) started.best (length_entries (best_at l ws) 1 (n + 1));
      next = over_back (nexts l ws) N N₀ (n + 1) started.next (length_ended (chosen_next l ws) 1 n);
      queue = queue_back zeros;
      moves = started.moves;
      counted = started.counted;
    }
