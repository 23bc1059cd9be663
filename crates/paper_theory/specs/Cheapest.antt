-- What is computed for a paragraph and for an index is what 01 declares: demand 2, over the definitions. Assumes nothing but
-- what each theorem states.
use Prim.Native.Nat.{ℕ, ◌+◌, ◌≤◌, ◌<◌}
use Rattle.std.specs.Prelude.{◌≡◌, ◌↔◌, Bool, leb, length}
use Rattle.std.proofs.Math.Path.{refl, ap, sym, subst}
use Rattle.std.proofs.Common.{◌∙◌}
use Rattle.std.proofs.Math.Bool.{true, false}
use mathlib.Core.List.{List, [], ◌∷◌}
use native.Mathlib.Omega.{arith}
use Rattle.std.proofs.Math.Dec.{T, leb→le}
use borrow.Author.Tests.{eq-eqb, le-leb}
use Rattle.laws.specs.Number.{if, both}
use Rattle.laws.specs.Cost.{Cost, none, some, ◌≼◌, Has, has_some}
use Rattle.laws.specs.Search.{smallest, largest}
use Rattle.laws.specs.Setting.{Monotone, Choice, Admissible, total, Best, through}
use Rattle.laws.specs.Table as Table
use Rattle.laws.specs.Chosen.{Next, next, next_is, next_none, Follows, follow, follow_follows, Cheapest, follows_cheapest, none_exactly}
use Rattle.paper.specs.declared.Limits.{Limits}
use Rattle.paper.specs.declared.PageLimits.{PageLimits}
use Rattle.paper.specs.Lines as Lines
use Rattle.paper.specs.Lines.{Lines, admissible, charge, settings, free, tie}
use Rattle.paper.specs.Paragraph as Paragraph
use Rattle.paper.specs.Paragraph.{sum, end, lines, paragraph}
use Rattle.paper.specs.Index as Index
use Rattle.paper.specs.Index.{index, item, keys}

-- ---- over what a paragraph's lines are
module _ (p : Lines) where
  pub settings_sums : Monotone (settings p)
  unfolding settings
  settings_sums c m n h = omega arith

  pub best_lines : (i : ℕ) → i ≤ p.end → Best (settings p) i (Lines.best p i)
  unfolding Lines.best settings
  best_lines i h = Table.best_is (settings p) settings_sums i h

  pub best_last : Lines.best p p.end ≡ some 0
  unfolding Lines.best settings
  best_last = Table.best_end (settings p)

  -- the rest as one line has the least last length, and costs nothing
  free_short : (i : ℕ) → free p i ≡ true → (p.lastmin ≤ p.line i p.end) × (p.line i p.end ≤ p.lopt)
  unfolding free
  free_short i e =
      let h = both (leb p.lastmin (p.line i p.end)) (leb (p.line i p.end) p.lopt) (subst T (sym e) tt) in
      (leb→le p.lastmin (p.line i p.end) h.0, leb→le (p.line i p.end) p.lopt h.1)

  module _ (wide : p.lopt ≤ p.lmax) (i : ℕ) (early : i < p.end) where
    -- and nothing is cheaper
    module _ (e : free p i ≡ true) where
      whole : Choice (settings p) i p.end
      unfolding settings admissible
      whole =
          let s = free_short i e in
          record {
            rises = early;
            within = omega arith;
            admissible = rw (eq-eqb p.end p.end refl, le-leb p.lastmin (p.line i p.end) s.0)
                (subst T (sym (le-leb (p.line i p.end) p.lmax (omega arith))) tt);
          }

      through_free : through (settings p) (Table.best (settings p)) i p.end ≡ some 0
      unfolding settings charge
      through_free = rw (
        Table.best_end (settings p),
        eq-eqb p.end p.end refl,
        le-leb (p.line i p.end) p.lopt
            (free_short i e).1,
      )

      pub free_best : Lines.best p i ≡ some 0
      unfolding Lines.best settings
      free_best =
          least (Table.best (settings p) i)
          (subst (λ (c : Cost). Table.best (settings p) i ≼ c) through_free ((Table.best_steps (settings p) i early).low p.end whole))
        where
          least : (c : Cost) → c ≼ some 0 → c ≡ some 0
          least none h = absurd h
          least (some v) h = ap some (omega arith)

      free_next : Next (settings p) largest i p.end
      unfolding Lines.best settings
      free_next = record {
        has = subst Has (sym free_best) tt;
        choice = whole;
        gives = through_free ∙ sym free_best;
        ahead = λ k ch e. ch.within;
      }

    -- the chosen next is 01's
    pub chosen_lines : Has (Lines.best p i) → Next (settings p) (tie p i) i (Lines.chosen_next p i)
    unfolding Lines.best Lines.chosen_next tie settings
    chosen_lines h = go (free p i) refl
      where
        go : (b : Bool) → free p i ≡ b → Next (settings p) (if b largest smallest) i (if b p.end (next (settings p) smallest i))
        go true e = free_next e
        go false e = next_is (settings p) smallest i early h

    pub chosen_none : Lines.best p i ≡ none → Lines.chosen_next p i ≡ 0
    unfolding Lines.best Lines.chosen_next settings
    chosen_none e = go (free p i) refl
      where
        go : (b : Bool) → free p i ≡ b → if b p.end (next (settings p) smallest i) ≡ 0
        go true h = absurd (subst Has e (free_next h).has)
        go false h = next_none (settings p) smallest i early e

  -- Demand 2: the breaks follow the chosen nexts, are admissible, have the total that is returned, and none cost less.
  pub lines_cheapest : p.lopt ≤ p.lmax → 1 < p.end → (v : ℕ) → Lines.best p 1 ≡ some v →
      (js : List ℕ) × (Lines.breaks p ≡ 1 ∷ js) × Follows (settings p) (tie p) 1 js × Cheapest (settings p) 1 v js
  unfolding Lines.best Lines.breaks settings
  lines_cheapest wide some_word v e = (js, refl, f, follows_cheapest (settings p) settings_sums (tie p) 1 v js e f)
    where
      js : List ℕ
      js = follow p.end (Lines.chosen_next p) p.end 1

      f : Follows (settings p) (tie p) 1 js
      f = follow_follows (settings p) (tie p) (Lines.chosen_next p) (λ i early. chosen_lines wide i early) 1 some_word (has_some e)

  -- Demand 2: no setting is found exactly where none is admissible.
  pub lines_none : (i : ℕ) → i < p.end → (Lines.best p i ≡ none) ↔ ((js : List ℕ) → ¬ Admissible (settings p) i js)
  unfolding Lines.best settings
  lines_none i early = none_exactly (settings p) settings_sums i early

-- ---- the paragraph
module _ (l : Limits) (ws : List ℕ) where
  pub best_paragraph : (i : ℕ) → i ≤ end ws → Best (paragraph l ws) i (Paragraph.best l ws i)
  unfolding paragraph Paragraph.best lines
  best_paragraph i h = best_lines (lines l ws) i h

  pub chosen_paragraph : l.lopt ≤ l.lmax → (i : ℕ) → i < end ws → Has (Paragraph.best l ws i) →
      Next (paragraph l ws) (tie (lines l ws) i) i (Paragraph.chosen_next l ws i)
  unfolding paragraph Paragraph.best Paragraph.chosen_next lines
  chosen_paragraph wide i early h = chosen_lines (lines l ws) wide i early h

  -- Demand 2
  pub paragraph_cheapest : l.lopt ≤ l.lmax → 1 ≤ length ws → (v : ℕ) → Paragraph.best l ws 1 ≡ some v →
      (js : List ℕ) × (Paragraph.breaks l ws ≡ 1 ∷ js) × Follows (paragraph l ws) (tie (lines l ws)) 1 js × Cheapest (paragraph l ws) 1 v js
  unfolding paragraph Paragraph.best Paragraph.breaks lines
  paragraph_cheapest wide words v e = lines_cheapest (lines l ws) wide (omega arith) v e

  pub paragraph_none : (i : ℕ) → i < end ws → (Paragraph.best l ws i ≡ none) ↔ ((js : List ℕ) → ¬ Admissible (paragraph l ws) i js)
  unfolding paragraph Paragraph.best lines
  paragraph_none i early = lines_none (lines l ws) i early

-- ---- the index
module _ (l : PageLimits) (ws : List ℕ) where
  pub index_sums : Monotone (index l ws)
  unfolding index
  index_sums c m n h = omega arith

  pub best_index : (i : ℕ) → i ≤ end ws → Best (index l ws) i (Index.best l ws i)
  unfolding Index.best index
  best_index i h = Table.best_is (index l ws) index_sums i h

  pub chosen_index : (i : ℕ) → i < end ws → Has (Index.best l ws i) → Next (index l ws) largest i (Index.chosen_next l ws i)
  unfolding Index.best Index.chosen_next index
  chosen_index i lt h = next_is (index l ws) largest i lt h

  -- the total from 0 is the key total of the boundaries
  keys_from : (i : ℕ) (js : List ℕ) → total (index l ws) i js ≡ item ws i + keys ws js
  unfolding index keys sum
  keys_from i [] = refl
  keys_from i (j ∷ js) = ap (λ (t : ℕ). item ws i + t) (keys_from j js)

  pub key_total : (js : List ℕ) → total (index l ws) 0 js ≡ keys ws js
  unfolding item
  key_total js = keys_from 0 js ∙ omega arith

  -- Demand 2: the boundaries follow the chosen nexts, are admissible, have the key total that is returned, and none have a smaller.
  pub index_cheapest : (v : ℕ) → Index.best l ws 0 ≡ some v →
      Follows (index l ws) (λ i. largest) 0 (Index.boundaries l ws) × Cheapest (index l ws) 0 v (Index.boundaries l ws)
  unfolding Index.best Index.boundaries index
  index_cheapest v e = (f, follows_cheapest (index l ws) index_sums (λ i. largest) 0 v (Index.boundaries l ws) e f)
    where
      f : Follows (index l ws) (λ i. largest) 0 (Index.boundaries l ws)
      f = follow_follows (index l ws) (λ i. largest) (Index.chosen_next l ws) chosen_index 0 (omega arith) (has_some e)

  -- Demand 2: no boundaries are found exactly where none are admissible.
  pub index_none : (i : ℕ) → i < end ws → (Index.best l ws i ≡ none) ↔ ((js : List ℕ) → ¬ Admissible (index l ws) i js)
  unfolding Index.best index
  index_none i lt = none_exactly (index l ws) index_sums i lt
