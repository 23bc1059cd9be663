-- One turn of the linking, in the values that the code has at hand. Assumes nothing.
use Rattle.std.proofs.Common.{◌≡◌, refl, ℕ, suc, ◌+◌, ◌-◌, ◌≤◌, ◌<◌, true, false, List, length, get_or, set, length-set, ◌∙◌, arith}
use Rattle.laws.specs.Cost.{leq}
use Rattle.paper.specs.declared.Kind.TheVariants.{Link}
use Rattle.paper.specs.Moves.{Taken, move, moved}
use Rattle.paper.specs.PointerRules.{pages_of, entry_at, Linked, links}
use Rattle.pointer_theory.proofs.Numbers.{best_larger, best_not_larger}
use Rattle.pointer_theory.proofs.Ready.{links_end}
use Rattle.pointer_theory.proofs.Turns.{links_early, links_enough, links_more, links_stop}
use Rattle.pointer.specs.declared.moves.Moves.{Moves}
use Rattle.pointer.specs.declared.start.Start.{Start}
use Rattle.pointer.specs.Held.{best_at, bests_size, bests_at}
use Rattle.pointer.specs.Taking.{Put}
use Rattle.pointer.specs.Asks.{text_of, pages_at, linking, LinksAsk, LinksCame}
use Rattle.pointer.proofs.Gaps.{start_size}
use Rattle.pointer.proofs.Taking.{Taking, taking_first, taking_same, taking_done, taking_place, taking_more}

-- what is left of the linking at k
abbrev pub linking_on : Start → List ℕ → ℕ → List ℕ → Taken Linked
linking_on s right k left = links (pages_at s) s.i right (length (text_of s) + 1 - k) k left

pub record Joining (s : Start) (left₀ right : List ℕ) (m₀ : Moves) (left : List ℕ) (m : Moves) (k : ℕ) : Type 0 where
  pub above : s.i < k
  pub within : k ≤ length (text_of s) + 1
  pub size : length left ≡ length left₀
  pub taking : Taking (linking s left₀ right) (linking_on s right k left) m₀ m

module _ {s : Start} {own : ℕ} {B left₀ right : List ℕ} {m₀ : Moves} (a : LinksAsk s own B left₀ right m₀) where
  abbrev n : ℕ
  n = length (text_of s)

  pub links_low : s.i ≤ n
  links_low = let low = s.low in omega (arith, start_size s)

  ends : leq ((pages_at s).best (n + 1)) ((pages_at s).best s.i) ≡ true
  unfolding pages_of
  ends = links_end s.limits (text_of s) s.i

  pub joining_first : Joining s left₀ right m₀ left₀ m₀ (s.i + 1)
  joining_first =
      let e : s.i + 1 ≡ suc s.i = omega arith in
      rw e
      (record {
        above = omega arith;
        within = omega (arith, links_low);
        size = refl;
        taking =
            taking_same
            (links_enough (pages_at s) s.i right n ends a.rises n (n + 1 - suc s.i) (suc s.i) left₀
            (omega arith) (omega (arith, links_low)) (omega arith) (omega arith))
            (taking_first a.room);
      })

  module _ {left : List ℕ} {m : Moves} {k : ℕ} (j : Joining s left₀ right m₀ left m k) where
    best_k : get_or B k 0 ≡ best_at s.limits (text_of s) k
    best_k = bests_at a.bests k (omega (arith, j.above)) j.within

    best_i : own ≡ best_at s.limits (text_of s) s.i
    best_i = a.is ∙ bests_at a.bests s.i (omega arith) (omega (arith, links_low))

    -- "best k > best i"
    module _ (more : own < get_or B k 0) where
      larger : leq ((pages_at s).best k) ((pages_at s).best s.i) ≡ false
      unfolding pages_of
      larger = best_larger s.limits (text_of s) s.held.passed k s.i j.within (omega (arith, best_k, best_i))

      -- the end is not linked
      pub join_early : k ≤ n
      join_early = links_early (pages_at s) s.i right n ends a.rises k j.within larger

      turn : Taking (linking s left₀ right) (moved (move Link k) (linking_on s right (entry_at right k) (set left k s.i))) m₀ m
      turn = taking_same (links_more (pages_at s) s.i right n ends a.rises k left j.above j.within larger) j.taking

      pub join_place : m.taken < length m.strip.now
      join_place = taking_place turn a.room

      pub join_on : {o : Moves} → Put m (move Link k) o → Joining s left₀ right m₀ (set left k s.i) o (entry_at right k)
      join_on put =
          let r = a.rises k j.above join_early in
          record {
            above = omega (arith, j.above);
            within = r.1;
            size = length-set left k s.i ∙ j.size;
            taking = taking_more turn a.room put;
          }

    pub join_stop : get_or B k 0 ≤ own → LinksCame s B left₀ right m₀ k left m
    unfolding pages_of
    join_stop le = record {
      took =
          taking_done
          (taking_same
          (links_stop (pages_at s) s.i right (n + 1 - k) k left
          (best_not_larger s.limits (text_of s) s.held.passed k s.i (omega (arith, links_low)) (omega (arith, best_k, best_i))))
          j.taking);
      within = omega (arith, j.within, bests_size a.bests);
    }
