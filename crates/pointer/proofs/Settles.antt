-- The choice of a start, read off the numbers of the strips. Assumes nothing but what each law states.
use Rattle.std.proofs.Common.{◌≡◌, refl, ap, sym, ◌∙◌, ℕ, ◌+◌, ◌-◌, ◌^◌, ◌≤◌, ◌<◌, true, List, get_or, set, arith}
use borrow.Author.Tests.{le-leb, lt-leb}
use Rattle.laws.specs.Cost.{Cost, none, some, before}
use Rattle.laws.specs.Chosen.{next}
use Rattle.paper.specs.Index as Index
use Rattle.paper.specs.Index.{gap, item}
use Rattle.paper.specs.PointerRules.{chooser}
use Rattle.paper.specs.Strips.{best_entry}
use Rattle.paper_theory.specs.Bound.{index_bound}
use Rattle.pointer_theory.proofs.Choice.{chooser_is, chooser_none}
use Rattle.pointer_theory.proofs.Numbers.{best_none}
use Rattle.pointer.specs.declared.start.Start.{Start}
use Rattle.pointer.specs.Asks.{text_of, pages_at, ChoiceAsk, ChosenBy, PointerSettled}
use Rattle.pointer.proofs.Gaps.{start_size, gap_read}

-- an entry that is not "no setting" is the best
pub entry_some : (c : Cost) {v : ℕ} → v ≡ best_entry c → ¬ (v ≡ 2 ^ 64 - 1) → c ≡ some v
unfolding best_entry
entry_some none e has = absurd (has e)
entry_some (some w) e has = ap some (sym e)

-- ---- "r is the chooser if Gap(i, r) lies in lmin..lmax and r has a setting, else i has none"
module _ {s : Start} {B : List ℕ} {r : ℕ} (a : ChoiceAsk s B r) where
  abbrev ws : List ℕ
  ws = text_of s

  pub choice_none : get_or B r 0 ≡ 2 ^ 64 - 1 → Index.best s.limits ws s.i ≡ none
  choice_none e =
      let no = best_none s.limits ws s.held.passed r (omega (arith, a.page.within, start_size s)) (omega (arith, a.is)) in
      a.choosing.nothing (chooser_none s.limits ws s.i r a.allowed no)

  pub choice_near : get_or s.sums.now (r - 1) 0 < s.near → Index.best s.limits ws s.i ≡ none
  choice_near short =
      let under : gap ws s.i r < s.limits.lmin = omega (arith, gap_read s a.page, s.nearest) in
      a.choosing.nothing (chooser_is s.limits ws s.i r ∙ rw (lt-leb s.limits.lmin (gap ws s.i r) under))

  module _ (has : ¬ (get_or B r 0 ≡ 2 ^ 64 - 1)) (long : s.near ≤ get_or s.sums.now (r - 1) 0) where
    best_is : Index.best s.limits ws r ≡ some (get_or B r 0)
    best_is = entry_some (Index.best s.limits ws r) a.is has

    chooses : chooser (pages_at s) s.i r ≡ true
    chooses =
        let far : s.limits.lmin ≤ gap ws s.i r = omega (arith, gap_read s a.page, s.nearest) in
        chooser_is s.limits ws s.i r
        ∙ rw (le-leb s.limits.lmin (gap ws s.i r) far, le-leb (gap ws s.i r) s.limits.lmax a.allowed, best_is)

    -- w is the length of the start
    module _ {w : ℕ} (own : w ≡ item ws s.i) where
      pub choice_some : ChosenBy s r (w + get_or B r 0)
      choice_some = record {
        best = rw own (a.choosing.gives chooses ∙ ap (before ◌+◌ (item ws s.i)) best_is);
        next = a.choosing.chosen chooses;
      }

      pub choice_small : w + get_or B r 0 < 2 ^ 25
      choice_small =
          let low = s.low in
          omega (
            arith,
            index_bound s.limits ws s.held.passed.lengths s.held.passed.few s.i (w + get_or B r 0) (omega (arith, start_size s))
                choice_some.best,
          )

-- ---- the entries of the start
module _ {s : Start} {B N : List ℕ} where
  pub settle_some : {r v : ℕ} → ChosenBy s r v → PointerSettled s B N v (set B s.i v) (set N s.i r)
  unfolding best_entry
  settle_some c = record { cost = rw c.best; best = refl; next = ap (set N s.i) c.next }

  -- "where there is no setting, best is 2^64 - 1 and next is 0"
  pub settle_none : Index.best s.limits (text_of s) s.i ≡ none →
      PointerSettled s B N (2 ^ 64 - 1) (set B s.i (2 ^ 64 - 1)) (set N s.i 0)
  unfolding best_entry Index.best Index.chosen_next next
  settle_none e = record { cost = rw e; best = refl; next = rw e }
