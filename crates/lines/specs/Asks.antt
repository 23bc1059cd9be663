-- What the functions of this crate ask of their callers. Assumes nothing.
use Rattle.std.specs.Prelude.{ℕ, ◌+◌, ◌-◌, ◌*◌, ◌^◌, ◌≤◌, ◌<◌, ◌≡◌, List, length, get_or}
use Rattle.paper.specs.declared.Limits.{Limits}
use Rattle.paper_theory.specs.Ranges.{Ranges}
use Rattle.lines.specs.declared.Measure.{Measure}
use Rattle.lines.specs.declared.Break.{Break}
use Rattle.lines.specs.Held.{begins, break_in}

-- no line inside a measure ends past this
abbrev pub farthest : ℕ
farthest = 2 ^ 25

-- every best that is a number is below this, with what its break is charged
abbrev pub costliest : ℕ
costliest = 2 ^ 41

-- the sums, or the ends, rise
abbrev pub Rising : List ℕ → Type 0
Rising S = (a b : ℕ) → a ≤ b → b < length S → get_or S a 0 ≤ get_or S b 0

-- from start i to break j there is at least the space
pub record Span (space : ℕ) (S : List ℕ) (i j : ℕ) : Type 0 where
  pub first : 1 ≤ i
  pub order : i ≤ j
  pub inside : j ≤ length S
  pub above : get_or S (i - 1) 0 + space ≤ get_or S (j - 1) 0

-- lines may begin at a place
pub record Beginning (l : Limits) (at : ℕ) : Type 0 where
  pub ranges : Ranges l
  pub bounded : at + l.lmax ≤ farthest

-- p is the measure of lines that begin at a place
pub record Placed (l : Limits) (p : Measure) : Type 0 where
  pub near : p.near ≡ begins l p + l.lmin
  pub goal : p.goal ≡ begins l p + l.lopt
  pub far : p.far ≡ begins l p + l.lmax
  pub bounded : p.far ≤ farthest

-- one measure moved on to make another
pub record Moving (p : Measure) (by : ℕ) : Type 0 where
  pub near : p.near ≤ p.far
  pub goal : p.goal ≤ p.far
  pub bounded : p.far + by ≤ farthest

pub record Moved (p : Measure) (by : ℕ) (r : Measure) : Type 0 where
  pub near : r.near ≡ p.near + by
  pub goal : r.goal ≡ p.goal + by
  pub far : r.far ≡ p.far + by

-- index j has an entry
pub record Indexed (E : List ℕ) (j : ℕ) : Type 0 where
  pub first : 1 ≤ j
  pub within : j ≤ length E

-- A line that ends at x, and would be best if it ended at y, has the length x + lopt - y. It is inside the measure.
pub record EndsInside (l : Limits) (x y : ℕ) : Type 0 where
  pub low : y + l.lmin ≤ x + l.lopt
  pub high : x + l.lopt ≤ y + l.lmax

-- the penalty of such a line
pub record Weighing (l : Limits) (x y : ℕ) : Type 0 where
  pub ranges : Ranges l
  pub bounded : y ≤ 2 * farthest
  pub inside : EndsInside l x y

-- a break that has a setting, and ends within what is measured
pub record Priced (b : Break) : Type 0 where
  pub end : b.end ≤ farthest
  pub number : b.best < costliest

pub record Curved (l : Limits) (goal : ℕ) (b : Break) : Type 0 where
  pub ranges : Ranges l
  pub bounded : goal ≤ farthest
  pub break : Priced b
  pub inside : EndsInside l b.end goal

-- F is asked of an index that has a setting
pub record Through (l : Limits) (goal : ℕ) (E B : List ℕ) (j : ℕ) : Type 0 where
  pub index : Indexed E j
  pub same : length B ≡ length E
  pub curve : Curved l goal (break_in E B j)

-- b ends no later than n, and a line to it from the last start that has n inside the measure is inside too
pub record Sided (l : Limits) (n b : Break) : Type 0 where
  pub ranges : Ranges l
  pub order : b.end ≤ n.end
  pub near : n.end + l.lmin ≤ b.end + l.lmax
  pub bounded : n.end ≤ farthest
  pub break : Priced b

-- three breaks in the order of their ends, which one start has inside the measure
pub record Three (l : Limits) (j k n : Break) : Type 0 where
  pub ranges : Ranges l
  pub jk : j.end ≤ k.end
  pub kn : k.end ≤ n.end
  pub near : n.end + l.lmin ≤ j.end + l.lmax
  pub j_break : Priced j
  pub k_break : Priced k
  pub n_break : Priced n
