-- The answer and the boundaries, from what stands after all starts. Assumes nothing.
use Prim.Native.Nat.{ℕ, ◌+◌, ◌-◌, ◌^◌, ◌≤◌, ◌<◌}
use mathlib.Core.Path.{◌≡◌, refl, ap, sym, subst, ◌∙◌}
use mathlib.Core.List.{List, [], ◌∷◌}
use native.Mathlib.Omega.{arith}
use lib.ListN.{length, get_or}
use Rattle.laws.specs.Cost.{none, some, has_some}
use Rattle.laws.specs.Search.{largest}
use Rattle.laws.specs.Strip.{over, over_nil, length_over, append_nil}
use Rattle.laws.specs.Chosen.{next}
use Rattle.paper.specs.declared.PageLimits.{PageLimits}
use Rattle.paper.specs.Told.{set_answer, none_answer}
use Rattle.paper.specs.Paragraph.{end}
use Rattle.paper.specs.Index as Index
use Rattle.paper.specs.Index.{index}
use Rattle.paper.specs.Strips.{IndexStrips, index_strips, index_written, index_set}
use Rattle.paper_theory.specs.Cheapest.{chosen_index}
use Rattle.pointer_theory.proofs.Numbers.{best_none}
use Rattle.strips.specs.Asks.{FollowAsk, Followed}
use Rattle.strips.specs.Chain.{next_in, chain, LeadsOn, leads_rises, leads_on, chain_later, chosen_leads}
use Rattle.strips.specs.Filling.{length_ended, entry_read}
use Rattle.pointer.specs.Held.{best_at}
use Rattle.pointer.proofs.Settles.{entry_some}
use Rattle.pages.specs.Asks.{PointerStrips, bests_of, nexts_of, start_strips, PageFilled, PageAsk, Paged}

module _ {l : PageLimits} {ws : List ℕ} {s : IndexStrips} (a : PageAsk l ws s) {taken : ℕ} {S : List ℕ} {t : PointerStrips}
    (d : PageFilled l ws s.sums (start_strips s) taken S t) where
  abbrev exit : List ℕ → IndexStrips
  exit Z = index_strips S t.best t.next t.left t.right t.moves Z

  written : (bs Z : List ℕ) → Z ≡ over bs s.boundaries → exit Z ≡ index_written l ws s bs
  unfolding index_written
  written bs Z e = rw (d.sums, d.best, d.next, d.left, d.right, d.moves, e)

  total : get_or t.best 0 0 ≡ best_at l ws 0
  total = entry_read (best_at l ws) 0 (length ws + 2) [] (bests_of l ws) s.best t.best d.best (sym (append_nil (bests_of l ws)))
      0 0 (omega arith) (omega arith)

  pub page_none : get_or t.best 0 0 ≡ 2 ^ 64 - 1 → Paged l ws s (none_answer taken) (exit s.boundaries)
  unfolding index_set
  page_none e =
      let f : Index.best l ws 0 ≡ none = best_none l ws a.fill.passed 0 (omega arith) (omega (arith, total)) in
      rw (f, d.count, written [] s.boundaries (sym (over_nil s.boundaries)))

  -- ---- the boundaries
  next_size : length ws + 2 ≤ length t.next
  next_size =
      let used = length_ended (Index.chosen_next l ws) 0 (length ws + 1) in
      omega (arith, a.fill.next, ap length d.next, length_over (nexts_of l ws) s.next (omega (arith, a.fill.next)))

  next_is : (k : ℕ) → 0 ≤ k → k ≤ length ws → next_in t.next 0 k ≡ Index.chosen_next l ws k
  next_is k h g =
      entry_read (Index.chosen_next l ws) 0 (length ws + 1) (0 ∷ []) (nexts_of l ws) s.next t.next d.next refl
      k (k - 0) (omega arith) (omega arith)

  -- "where there is no setting, [..] next is 0"
  no_next : (i : ℕ) → i < end ws → Index.best l ws i ≡ none → Index.chosen_next l ws i ≡ 0
  unfolding Index.best Index.chosen_next next
  no_next i h e = rw e

  module _ (has : ¬ (get_or t.best 0 0 ≡ 2 ^ 64 - 1)) where
    best_is : Index.best l ws 0 ≡ some (get_or t.best 0 0)
    best_is = entry_some (Index.best l ws 0) total has

    -- the nexts lead on from 0
    leads : LeadsOn t.next 0 (length ws) 0
    unfolding Index.best index
    leads =
        chosen_leads (index l ws) (λ i. largest) (Index.chosen_next l ws) (chosen_index l ws) no_next t.next 0 (length ws) refl next_is 0
        (omega arith) (λ h. has_some best_is)

    module _ {w : ℕ} (first : w ≡ get_or t.next 0 0) where
      leads_first : LeadsOn t.next 0 (length ws) w
      leads_first = rw first (leads_on t.next 0 (length ws) 0 leads (omega arith))

      pub page_follows : FollowAsk t.next 0 (length ws) w s.boundaries
      page_follows = record {
        leads = leads_first;
        held = omega (arith, next_size);
        few = a.fill.passed.few;
        room = omega (arith, a.boundaries, leads_rises t.next 0 (length ws) 0 leads (omega arith));
      }

      pub page_some : {Z : List ℕ} {found : ℕ} → Followed (chain t.next 0 (length ws) w) s.boundaries Z found →
          Paged l ws s (set_answer (get_or t.best 0 0) found taken) (exit Z)
      unfolding index_set Index.boundaries
      page_some {Z} f =
          let e : w ≡ Index.chosen_next l ws 0 = first ∙ next_is 0 (omega arith) (omega arith) in
          let c : chain t.next 0 (length ws) w ≡ Index.boundaries l ws =
          ap (chain t.next 0 (length ws)) e
          ∙ chain_later t.next 0 (length ws) (Index.chosen_next l ws) next_is 0 (subst (LeadsOn t.next 0 (length ws)) e leads_first) in
          let z = written (Index.boundaries l ws) Z (f.is ∙ ap (λ (b : List ℕ). over b s.boundaries) c) in
          rw (best_is, f.counted, c, d.count, z)
