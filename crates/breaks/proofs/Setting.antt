-- A paragraph set, its strips filled: none, or the breaks. Assumes nothing but what each law states.
use Prim.Native.Nat.{ℕ, ◌+◌, ◌-◌, ◌^◌, ◌≤◌, ◌<◌}
use mathlib.Core.Path.{◌≡◌, refl, ap, sym, ◌∙◌}
use mathlib.Core.List.{List, [], ◌∷◌}
use native.Mathlib.Omega.{arith}
use lib.ListN.{length, get_or}
use Rattle.laws.specs.Cost.{some, has_some}
use Rattle.laws.specs.Strip.{over, over_nil, length_over}
use Rattle.std.proofs.lemmas.List.{append-nil}
use Rattle.paper.specs.declared.Limits.{Limits}
use Rattle.paper.specs.Told.{set_answer, none_answer}
use Rattle.paper.specs.Lines as Lines
use Rattle.paper.specs.Lines.{settings, tie}
use Rattle.paper.specs.Paragraph.{best, chosen_next, breaks, lines}
use Rattle.paper.specs.Strips.{ParagraphStrips, paragraph_strips, paragraph_written, paragraph_set}
use Rattle.paper_theory.specs.Bound.{paragraph_bound}
use Rattle.paper_theory.specs.Cheapest.{chosen_lines, chosen_none}
use Rattle.paper_theory.specs.Ranges.{Ranges, ranges}
use Rattle.strips.specs.Asks.{FollowAsk, Followed}
use Rattle.strips.specs.Costs.{entry_none, entry_some}
use Rattle.strips.specs.Chain.{next_in, chain, LeadsOn, chosen_leads, chain_all}
use Rattle.strips.specs.Filling.{length_ended, entry_read}
use Rattle.breaks.specs.Asks.{best_at, bests, nexts, Filled, SetAsks, BreaksSet}

module _ {l : Limits} {ws : List ℕ} {s : ParagraphStrips} {S B N Q m : List ℕ} {count : ℕ} (a : SetAsks l ws s)
    (f : Filled l ws s.sums s.best s.next s.queue s.moves count S B N Q m) where
  abbrev n : ℕ
  n = length ws

  limits : Ranges l
  limits = ranges l a.fill.passed.limits

  -- the first entry is the best of start 1
  first_best : get_or B 0 0 ≡ best_at l ws 1
  first_best = entry_read (best_at l ws) 1 (n + 1) [] (bests l ws) s.best B f.best (sym (append-nil (bests l ws))) 1 0 refl
      (omega arith)

  number : (v : ℕ) → best l ws 1 ≡ some v → v < 2 ^ 64 - 1
  number v e = omega (arith, paragraph_bound l limits ws a.fill.passed.few 1 v (omega arith) (omega arith) e)

  -- every strip, where those found are the breaks
  written_strips : (found b : List ℕ) → b ≡ over found s.breaks → paragraph_strips S B N Q m b ≡ paragraph_written l ws s found
  unfolding paragraph_written
  written_strips found b is = rw (f.sums, f.best, f.next, f.queue, f.moves, is)

  module _ {x : ℕ} (e : x ≡ get_or B 0 0) where
    pub setting_none : x ≡ 2 ^ 64 - 1 → BreaksSet l ws s (none_answer count) (paragraph_strips S B N Q m s.breaks)
    unfolding paragraph_set
    setting_none h =
        rw (entry_none (best l ws 1) x (e ∙ first_best) number h)
        (record { tells = ap none_answer f.counted; strips = written_strips [] s.breaks (sym (over_nil s.breaks)) })

    -- ---- the breaks
    module _ (h : x ≡ 2 ^ 64 - 1 → ⊥) where
      total : best l ws 1 ≡ some x
      total = entry_some (best l ws 1) x (e ∙ first_best) h

      held : (k : ℕ) → 1 ≤ k → k ≤ n → next_in N 1 k ≡ chosen_next l ws k
      held k low high = entry_read (chosen_next l ws) 1 n (0 ∷ []) (nexts l ws) s.next N f.next refl k (k - 1) (omega arith)
          (omega arith)

      leads : LeadsOn N 1 n 1
      unfolding best chosen_next lines settings Lines.best
      leads =
          let p = lines l ws in
          chosen_leads (settings p) (tie p) (chosen_next l ws) (chosen_lines p limits.lopt_high) (chosen_none p limits.lopt_high)
          N 1 n refl held 1 (omega arith) (λ z. has_some total)

      pub setting_follow : FollowAsk N 1 n 1 s.breaks
      setting_follow = record {
        leads = leads;
        held = omega (
          arith,
          ap length f.next,
          length_over (nexts l ws) s.next (omega (arith, length_ended (chosen_next l ws) 1 n, a.fill.next)),
          a.fill.next,
        );
        few = a.fill.passed.few;
        room = omega (arith, a.breaks);
      }

      pub setting_set : {found : ℕ} {b : List ℕ} → Followed (chain N 1 n 1) s.breaks b found →
          BreaksSet l ws s (set_answer x found count) (paragraph_strips S B N Q m b)
      unfolding paragraph_set breaks Lines.breaks lines chosen_next
      setting_set {found} {b} followed =
          let is : chain N 1 n 1 ≡ breaks l ws = chain_all N 1 n (chosen_next l ws) held 1 leads (omega (arith, a.fill.passed.words)) in
          rw total
          (record {
            tells = rw (followed.counted, is, f.counted);
            strips = written_strips (breaks l ws) b (followed.is ∙ ap (λ (c : List ℕ). over c s.breaks) is);
          })
