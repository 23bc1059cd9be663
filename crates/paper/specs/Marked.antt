-- 01, "The compositor's table": the thirteen marked rows as data, what each says of the definitions, and what is computed for it; and the
-- rows of W-202 and W-205.
use Rattle.std.specs.Prelude.{ℕ, ◌≡◌, List, [], ◌∷◌, map}
use Rattle.laws.specs.Cost.{Cost, none, some}
use Rattle.laws.specs.Search.{Tie, largest}
use Rattle.laws.specs.Setting.{Problem, Best}
use Rattle.laws.specs.Chosen.{Follows}
use Rattle.paper.specs.declared.Limits.{Limits}
use Rattle.paper.specs.declared.PageLimits.{PageLimits}
use Rattle.paper.specs.Allowed.{edition_limits, spaced_limits, limits_of, page_limits_of}
use Rattle.paper.specs.Lines.{tie}
use Rattle.paper.specs.Paragraph as Paragraph
use Rattle.paper.specs.Paragraph.{lines, paragraph}
use Rattle.paper.specs.Index as Index
use Rattle.paper.specs.Index.{index}

-- ---- the rows
pub data RowLimits : Type 0 where
  lines_row : Limits → RowLimits
  pages_row : PageLimits → RowLimits

-- "Limits in the order lmin, lopt, lmax, A, or lmin, lmax.", those with a space, and those of edition 2
abbrev para : ℕ → ℕ → ℕ → ℕ → RowLimits
para lmin lopt lmax a = lines_row (limits_of lmin lopt lmax a)

abbrev spaced : ℕ → ℕ → ℕ → ℕ → ℕ → RowLimits
spaced lmin lopt lmax a space = lines_row (spaced_limits lmin lopt lmax a space)

abbrev second : ℕ → ℕ → ℕ → ℕ → ℕ → ℕ → RowLimits
second lmin lopt lmax a space lastmin = lines_row (edition_limits lmin lopt lmax a space 2 lastmin)

abbrev list : ℕ → ℕ → RowLimits
list lmin lmax = pages_row (page_limits_of lmin lmax)

-- the total, and the breaks or boundaries
pub data RowOutcome : Type 0 where
  found : ℕ → List ℕ → RowOutcome
  NONE : RowOutcome

pub record Row : Type 0 where
  pub asked : RowLimits
  pub lengths : List ℕ
  pub outcome : RowOutcome

abbrev row : RowLimits → List ℕ → RowOutcome → Row
row a ws o = record { asked = a; lengths = ws; outcome = o }

abbrev pub table : List Row
table =
    -- P1 to P8
    row (para 1 6 6 1) (3 ∷ 2 ∷ 2 ∷ 5 ∷ []) (found 13 (1 ∷ 2 ∷ 4 ∷ [])) ∷
    row (para 6 8 10 1) (4 ∷ 4 ∷ 3 ∷ 5 ∷ 2 ∷ []) (found 0 (1 ∷ 3 ∷ 5 ∷ [])) ∷
    row (para 2 4 6 1) (3 ∷ 2 ∷ 2 ∷ []) (found 1 (1 ∷ 2 ∷ [])) ∷
    row (para 6 8 9 1) (5 ∷ 5 ∷ []) NONE ∷
    row (para 6 8 9 1) (5 ∷ []) (found 0 (1 ∷ [])) ∷
    row (para 6 8 10 1) (10 ∷ []) (found 4 (1 ∷ [])) ∷
    row (para 6 8 10 1) (11 ∷ []) NONE ∷
    row (para 6 8 10 15) (10 ∷ []) (found 60 (1 ∷ [])) ∷
    -- G1 to G5
    row (list 2 7) (3 ∷ 4 ∷ 2 ∷ 5 ∷ []) (found 2 (3 ∷ [])) ∷
    row (list 2 7) (8 ∷ []) NONE ∷
    row (list 0 7) (8 ∷ []) (found 8 (1 ∷ [])) ∷
    row (list 0 2) (1 ∷ 1 ∷ 1 ∷ []) (found 1 (3 ∷ [])) ∷
    row (list 0 7) (7 ∷ []) (found 0 []) ∷
    []

-- W-202's worked rows; then a word that fits lmax only because the space is off, and one that does not fit
abbrev pub space_table : List Row
space_table =
    row (spaced 1 6 6 1 0) (3 ∷ 2 ∷ 2 ∷ 5 ∷ []) (found 13 (1 ∷ 2 ∷ 4 ∷ [])) ∷
    row (spaced 1 5 6 1 1) (4 ∷ 3 ∷ 3 ∷ 6 ∷ []) (found 4 (1 ∷ 2 ∷ 4 ∷ [])) ∷
    row (spaced 1 1 2 1 1) (2 ∷ []) (found 0 (1 ∷ [])) ∷
    row (spaced 2 4 6 1 1) (4 ∷ 3 ∷ 3 ∷ []) (found 2 (1 ∷ 2 ∷ [])) ∷
    row (spaced 6 8 10 1 2) (4 ∷ 4 ∷ 3 ∷ 5 ∷ 5 ∷ []) (found 1 (1 ∷ 4 ∷ [])) ∷
    row (spaced 6 8 10 1 1) (11 ∷ []) (found 4 (1 ∷ [])) ∷
    row (spaced 6 8 10 1 1) (12 ∷ []) NONE ∷
    []

-- W-205's worked rows, under edition 2; then a word of just the least last length, and two that have it with their space, one of them
-- without it too
abbrev pub last_table : List Row
last_table =
    row (second 1 2 2 1 0 2) (1 ∷ []) NONE ∷
    row (second 1 6 6 1 0 4) (3 ∷ 2 ∷ 2 ∷ 3 ∷ []) (found 1 (1 ∷ 3 ∷ [])) ∷
    row (second 2 4 6 1 0 3) (3 ∷ 2 ∷ 2 ∷ []) (found 1 (1 ∷ 2 ∷ [])) ∷
    row (second 2 5 7 1 1 4) (4 ∷ 3 ∷ 3 ∷ 2 ∷ []) (found 1 (1 ∷ 3 ∷ [])) ∷
    row (second 1 2 2 1 0 2) (2 ∷ []) (found 0 (1 ∷ [])) ∷
    row (second 1 2 2 1 1 2) (2 ∷ []) NONE ∷
    row (second 1 2 2 1 1 2) (3 ∷ []) (found 0 (1 ∷ [])) ∷
    []

-- ---- what the definitions say of a row
-- v is the least total over all admissible settings from i, and js are the later starts that the tie rule chooses
abbrev pub Sets : Problem → (ℕ → Tie) → ℕ → ℕ → List ℕ → Type 0
Sets p tie i v js = Best p i (some v) × Follows p tie i js

abbrev pub Given : RowLimits → List ℕ → RowOutcome → Type 0
Given (lines_row l) ws NONE = Best (paragraph l ws) 1 none
Given (lines_row l) ws (found v []) = ⊥
Given (lines_row l) ws (found v (s ∷ js)) = (s ≡ 1) × Sets (paragraph l ws) (tie (lines l ws)) 1 v js
Given (pages_row l) ws NONE = Best (index l ws) 0 none
Given (pages_row l) ws (found v js) = Sets (index l ws) (λ i. largest) 0 v js

abbrev pub RowHolds : Row → Type 0
RowHolds r = Given r.asked r.lengths r.outcome

-- each row of a list
abbrev pub EachRow : (Row → Type 0) → List Row → Type 0
EachRow P [] = Unit {0}
EachRow P (r ∷ rs) = P r × EachRow P rs

-- ---- what is computed
abbrev pub outcome_of : Cost → List ℕ → RowOutcome
outcome_of none js = NONE
outcome_of (some v) js = found v js

unfoldable pub computed : RowLimits → List ℕ → RowOutcome
computed (lines_row l) ws = outcome_of (Paragraph.best l ws 1) (Paragraph.breaks l ws)
computed (pages_row l) ws = outcome_of (Index.best l ws 0) (Index.boundaries l ws)

-- What is computed for the rows is what the table says.
abbrev pub Computed : List Row → Type 0
Computed rows = map (λ (r : Row). computed r.asked r.lengths) rows ≡ map (λ (r : Row). r.outcome) rows
