-- 01, "The index". Items are numbered from 1, ws has their lengths, with 0 and n + 1 as fictitious ends.
use Rattle.std.specs.Prelude.{ℕ, ◌+◌, ◌-◌, Bool, ◌&&◌, List, ◌∷◌, map, leb, take, drop, get_or}
use Rattle.laws.specs.Cost.{Cost}
use Rattle.laws.specs.Search.{largest}
use Rattle.laws.specs.Setting.{Problem}
use Rattle.laws.specs.Table as Table
use Rattle.laws.specs.Chosen.{next, follow}
use Rattle.paper.specs.declared.PageLimits.{PageLimits}
use Rattle.paper.specs.Paragraph.{sum, end}

-- "Gap(a, b) is the sum of lengths strictly between a and b, for a < b."
unfoldable pub gap : List ℕ → ℕ → ℕ → ℕ
gap ws a b = sum (take (b - a - 1) (drop a ws))

-- "every Gap between neighbours lies in lmin..lmax, the first and last page included. Empty pages are allowed where lmin is 0."
unfoldable pub page : PageLimits → List ℕ → ℕ → ℕ → Bool
page l ws a b = leb l.lmin (gap ws a b) && leb (gap ws a b) l.lmax

-- the length of an item; 0 for the fictitious ends
unfoldable pub item : List ℕ → ℕ → ℕ
item ws i = get_or (0 ∷ ws) i 0

-- "The key total is the sum of lengths of the boundaries strictly between 0 and n+1."
unfoldable pub keys : List ℕ → List ℕ → ℕ
keys ws boundaries = sum (map (item ws) boundaries)

-- "A boundary sequence runs from 0 to n+1". "The best of start i counts w_i for i from 1 to n, and nothing for 0 and n+1."
unfoldable pub index : PageLimits → List ℕ → Problem
index l ws = record {
  end = end ws;
  fits = page l ws;
  cost = λ i j. item ws i;
  join = λ c rest. c + rest;
  done = 0;
}

unfoldable pub best : PageLimits → List ℕ → ℕ → Cost
best l ws i = Table.best (index l ws) i

-- "Between equal choices the LARGEST next boundary is taken"
unfoldable pub chosen_next : PageLimits → List ℕ → ℕ → ℕ
chosen_next l ws i = next (index l ws) largest i

-- the boundaries strictly between 0 and n+1, which follow the chosen nexts from 0
unfoldable pub boundaries : PageLimits → List ℕ → List ℕ
boundaries l ws = follow (end ws) (chosen_next l ws) (end ws) 0
