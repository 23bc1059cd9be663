-- "The marked cases are shown of the definitions, as a single statement over the table." Assumes nothing.
use Rattle.std.specs.Prelude.{ℕ, ◌≤◌, ◌≡◌, refl, Bool, true, ◌&&◌, List, [], ◌∷◌, T, leb, length}
use Rattle.std.proofs.Common.{sym, subst, arith, leb→le}
use Rattle.laws.specs.Number.{all, both}
use Rattle.laws.specs.Cost.{Cost, none, some}
use Rattle.laws.specs.Setting.{Best}
use Rattle.paper.specs.declared.Limits.{Limits}
use Rattle.paper.specs.declared.PageLimits.{PageLimits}
use Rattle.paper.specs.Paragraph as Paragraph
use Rattle.paper.specs.Paragraph.{paragraph}
use Rattle.paper.specs.Index as Index
use Rattle.paper.specs.Index.{index}
use Rattle.paper.specs.Marked.{RowLimits, lines_row, pages_row, found, Row, table, space_table, last_table, Given}
use Rattle.paper.specs.Marked.{RowHolds, EachRow, outcome_of, computed, Computed}
use Rattle.paper.proofs.Marked.{rows_computed, space_rows_computed, last_rows_computed}
use Rattle.paper_theory.specs.Cheapest.{best_paragraph, paragraph_cheapest, best_index, index_cheapest}

-- there is a word, and lopt is at most lmax
abbrev sound : RowLimits → List ℕ → Bool
sound (lines_row l) ws = leb l.lopt l.lmax && leb 1 (length ws)
sound (pages_row l) ws = true

lines_given : (l : Limits) (ws : List ℕ) → l.lopt ≤ l.lmax → 1 ≤ length ws → (c : Cost) → Paragraph.best l ws 1 ≡ c →
    Given (lines_row l) ws (outcome_of c (Paragraph.breaks l ws))
lines_given l ws wide words none e = subst (Best (paragraph l ws) 1) e (best_paragraph l ws 1 (omega arith))
lines_given l ws wide words (some v) e =
    let r = paragraph_cheapest l ws wide words v e in
    subst (λ (b : List ℕ). Given (lines_row l) ws (found v b)) (sym r.1)
    (refl, (subst (Best (paragraph l ws) 1) e (best_paragraph l ws 1 (omega arith)), r.2))

pages_given : (l : PageLimits) (ws : List ℕ) (c : Cost) → Index.best l ws 0 ≡ c →
    Given (pages_row l) ws (outcome_of c (Index.boundaries l ws))
pages_given l ws none e = subst (Best (index l ws) 0) e (best_index l ws 0 (omega arith))
pages_given l ws (some v) e = (subst (Best (index l ws) 0) e (best_index l ws 0 (omega arith)), (index_cheapest l ws v e).0)

computed_given : (a : RowLimits) (ws : List ℕ) → T (sound a ws) → Given a ws (computed a ws)
unfolding computed
computed_given (lines_row l) ws t =
    let h = both (leb l.lopt l.lmax) (leb 1 (length ws)) t in
    lines_given l ws (leb→le l.lopt l.lmax h.0) (leb→le 1 (length ws) h.1) (Paragraph.best l ws 1) refl
computed_given (pages_row l) ws t = pages_given l ws (Index.best l ws 0) refl

each_holds : (rs : List Row) → T (all (λ r. sound r.asked r.lengths) rs) → Computed rs → EachRow RowHolds rs
each_holds [] t e = tt
each_holds (r ∷ rs) t e =
    let h = both (sound r.asked r.lengths) (all (λ r. sound r.asked r.lengths) rs) t in
    (subst (Given r.asked r.lengths) (cc) (computed_given r.asked r.lengths h.0), each_holds rs h.1 (cc))

pub marked : EachRow RowHolds table
marked = each_holds table tt rows_computed

-- and those of W-202
pub space_marked : EachRow RowHolds space_table
space_marked = each_holds space_table tt space_rows_computed

-- and those of W-205
pub last_marked : EachRow RowHolds last_table
last_marked = each_holds last_table tt last_rows_computed
