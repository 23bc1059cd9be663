-- 01, "The paragraph". Words are numbered from 1, ws has their lengths, and n + 1 is the end. What settings, totals and choices are
-- stands in Lines; here are 01's own lines, less the space (W-202), with the least last length of an edition (W-205).
use Rattle.std.specs.Prelude.{ℕ, ◌+◌, ◌-◌, ◌*◌, List, [], ◌∷◌, eqb, length, take, drop}
use Rattle.laws.specs.Number.{if}
use Rattle.laws.specs.Cost.{Cost}
use Rattle.laws.specs.Setting.{Problem}
use Rattle.laws.specs.Square.{sqd}
use Rattle.paper.specs.declared.Limits.{Limits}
use Rattle.paper.specs.Lines as Lines
use Rattle.paper.specs.Lines.{Lines, settings}

unfoldable pub sum : List ℕ → ℕ
sum [] = 0
sum (w ∷ ws) = w + sum ws

-- "Line(i, j), for i ≤ j, is the sum of lengths of words i to j-1."
unfoldable pub line : List ℕ → ℕ → ℕ → ℕ
line ws i j = sum (take (j - i) (drop (i - 1) ws))

-- W-202: "A line's length becomes the sum less one space width, for the last line too." (Where i = j there is no line, and none is taken
-- off: 0 less the space is 0 here. A line's sum is above the space, as every length is.)
unfoldable pub line_length : Limits → List ℕ → ℕ → ℕ → ℕ
line_length l ws i j = line ws i j - l.space

-- "Index n+1 is the end."
abbrev pub end : List ℕ → ℕ
end ws = length ws + 1

-- "Penalty of a line of length x: A·(x - lopt)²." (The space is off already.)
unfoldable pub penalty : Limits → ℕ → ℕ
penalty l x = l.a * sqd x l.lopt

-- W-205: "Edition 2 adds a least last length, lastmin ≤ lopt, and a last line below it is not admissible." Under edition 1 a last line may
-- be as short as it comes.
unfoldable pub least_last : Limits → ℕ
least_last l = if (eqb l.edition 2) l.lastmin 0

-- 01's lines, less the space, with the edition's least last length; a break costs nothing.
unfoldable pub lines : Limits → List ℕ → Lines
lines l ws = record {
  end = end ws;
  lmin = l.lmin;
  lopt = l.lopt;
  lmax = l.lmax;
  lastmin = least_last l;
  line = line_length l ws;
  penalty = penalty l;
  break = λ j. 0;
}

unfoldable pub paragraph : Limits → List ℕ → Problem
paragraph l ws = settings (lines l ws)

-- what a line costs
unfoldable pub charge : Limits → List ℕ → ℕ → ℕ → ℕ
charge l ws i j = Lines.charge (lines l ws) i j

unfoldable pub best : Limits → List ℕ → ℕ → Cost
best l ws i = Lines.best (lines l ws) i

unfoldable pub chosen_next : Limits → List ℕ → ℕ → ℕ
chosen_next l ws i = Lines.chosen_next (lines l ws) i

unfoldable pub breaks : Limits → List ℕ → List ℕ
breaks l ws = Lines.breaks (lines l ws)
