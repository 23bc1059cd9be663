-- 01, "The paragraph", over what a paragraph's lines are: 01's sentences on settings, penalties and the chosen next stand here once.
-- Settings, totals, the least over all of them and the tie rules are those of `laws` (Setting, Table, Chosen).
use Rattle.std.specs.Prelude.{ℕ, ◌+◌, ◌≤◌, Bool, ◌&&◌, List, ◌∷◌, leb, eqb}
use Rattle.laws.specs.Number.{if}
use Rattle.laws.specs.Cost.{Cost}
use Rattle.laws.specs.Search.{Tie, smallest, largest}
use Rattle.laws.specs.Setting.{Problem}
use Rattle.laws.specs.Table as Table
use Rattle.laws.specs.Chosen.{next, follow}

-- What a paragraph's lines are: the end, the limits, the least last length, Line, the penalty of a length, and what a break before an
-- index is charged.
pub record Lines : Type 0 where
  pub end : ℕ
  pub lmin : ℕ
  pub lopt : ℕ
  pub lmax : ℕ
  pub lastmin : ℕ
  pub line : ℕ → ℕ → ℕ
  pub penalty : ℕ → ℕ
  pub break : ℕ → ℕ

-- a length of at least low and at most high: inside the measure where these are lmin and lmax
abbrev pub inside : ℕ → ℕ → ℕ → Bool
inside low high x = leb low x && leb x high

-- the same as orders
abbrev pub Inside : ℕ → ℕ → ℕ → Type 0
Inside low high x = (low ≤ x) × (x ≤ high)

-- "Admissible: every line but the last has lmin ≤ length ≤ lmax; the last has length ≤ lmax." W-205: "a last line below [the least last
-- length] is not admissible"
unfoldable pub admissible : Lines → ℕ → ℕ → Bool
admissible p i j =
    if (eqb j p.end) (inside p.lastmin p.lmax (p.line i j)) (inside p.lmin p.lmax (p.line i j))

-- "A last line of length ≤ lopt costs 0." Every other costs its penalty, and what its break is charged.
unfoldable pub charge : Lines → ℕ → ℕ → ℕ
charge p i j = if (eqb j p.end && leb (p.line i j) p.lopt) 0 (p.penalty (p.line i j) + p.break j)

-- "A setting is a rising list of line starts, the first being 1. The last line ends at n+1." The total is the sum of the
-- lines' charges. (Setting: Admissible, total)
unfoldable pub settings : Lines → Problem
settings p = record {
  end = p.end;
  fits = admissible p;
  cost = charge p;
  join = λ c rest. c + rest;
  done = 0;
}

-- "The best of start i is the least total penalty over admissible settings of words i to n. The best of n+1 is 0."
-- (Setting: Best, which this is by Table: best_is)
unfoldable pub best : Lines → ℕ → Cost
best p i = Table.best (settings p) i

-- "Line(i, n+1) ≤ lopt": the rest as one line costs nothing. (W-205: it must have the least last length.)
unfoldable pub free : Lines → ℕ → Bool
free p i = leb p.lastmin (p.line i p.end) && leb (p.line i p.end) p.lopt

-- "The chosen next of start i: n+1 if Line(i, n+1) ≤ lopt; otherwise the smallest j that gives the best."
-- (Chosen: Next, which this is by next_is)
unfoldable pub chosen_next : Lines → ℕ → ℕ
chosen_next p i = if (free p i) p.end (next (settings p) smallest i)

-- The same as a tie rule: n+1 is the largest of those that give the best where the rest costs nothing.
unfoldable pub tie : Lines → ℕ → Tie
tie p i = if (free p i) largest smallest

-- "The breaks follow the chosen nexts from 1."
unfoldable pub breaks : Lines → List ℕ
breaks p = 1 ∷ follow p.end (chosen_next p) p.end 1
