-- 01, "Moves", the queue rules, step by step. A rule gives the moves that it takes and what stands afterwards.
use Rattle.std.specs.Prelude.{ℕ, zero, suc, ◌+◌, ◌-◌, ◌*◌, Bool, true, false, not, ◌&&◌, ◌||◌, List, [], ◌∷◌, reverse, leb, ltb, length}
use Rattle.laws.specs.Number.{if}
use Rattle.laws.specs.Cost.{Cost, none, some, has_cost, value}
use Rattle.paper.specs.declared.Limits.{Limits}
use Rattle.paper.specs.declared.Kind.TheVariants.{Add, Pass, Drop, Pop}
use Rattle.paper.specs.declared.Move.{Move}
use Rattle.paper.specs.Lines.{Lines}
use Rattle.paper.specs.Paragraph.{line, lines, best}
use Rattle.paper.specs.Moves.{move, Taken, still, moved, joined}

-- What the rules read: the paragraph's lines, A, Line between two breaks, and the best of each index, with what its break is charged joined
-- to it. W-202: "Between two break points the space cancels, so the crossing test keeps its plain sums."
pub record Text : Type 0 where
  pub lines : Lines
  pub a : ℕ
  pub apart : ℕ → ℕ → ℕ
  pub best : ℕ → Cost

unfoldable pub text_of : Limits → List ℕ → Text
text_of l ws = record { lines = lines l ws; a = l.a; apart = line ws; best = best l ws }

-- the number of an index that has a setting
abbrev pub best_of : Text → ℕ → ℕ
best_of t j = value (t.best j)

-- "F(i, j) = best of j + A·(Line(i, j) - lopt)², also for j = n+1."
unfoldable pub F : Text → ℕ → ℕ → ℕ
F t i j = best_of t j + t.lines.penalty (t.lines.line i j)

-- "best k + p(lmax - Line(k, l)) ≥ best j + p(lmax - Line(j, l))", p being the penalty formula
unfoldable pub edge : Text → ℕ → ℕ → ℕ → Bool
edge t j k l =
    leb (best_of t j + t.lines.penalty (t.lines.lmax - t.apart j l))
    (best_of t k + t.lines.penalty (t.lines.lmax - t.apart k l))

-- "Line(j, l)·best k ≥ Line(j, k)·best l + Line(k, l)·best j + A·Line(j, k)·Line(j, l)·Line(k, l)"
unfoldable pub chord : Text → ℕ → ℕ → ℕ → Bool
chord t j k l =
    leb (t.apart j k * best_of t l + t.apart k l * best_of t j + t.a * (t.apart j k * t.apart j l * t.apart k l))
    (t.apart j l * best_of t k)

-- "With j the candidate, k the rear and l its neighbour, k is bridged when both hold"
abbrev pub bridged : Text → ℕ → ℕ → ℕ → Bool
bridged t j k l = edge t j k l && chord t j k l

-- ---- at start i, on a queue that is listed from front to rear
-- "1. While the front has Line > lmax: Drop it."
unfoldable pub drop_long : Text → ℕ → List ℕ → Taken (List ℕ)
drop_long t i [] = still []
drop_long t i (j ∷ q) = elim (ltb t.lines.lmax (t.lines.line i j))
    [ true ↦ moved (move Drop j) (drop_long t i q) | false ↦ still (j ∷ q) ]

-- "Pop the rear while F(i, candidate) ≤ F(i, rear)", on the queue from rear to front
unfoldable pub pop_worse : Text → ℕ → ℕ → List ℕ → Taken (List ℕ)
pop_worse t i j [] = still []
pop_worse t i j (k ∷ q) = elim (leb (F t i j) (F t i k)) [ true ↦ moved (move Pop k) (pop_worse t i j q) | false ↦ still (k ∷ q) ]

-- "Pop the rear while two or more stand and the rear is bridged", on the queue from rear to front
unfoldable pub pop_bridged : Text → ℕ → List ℕ → Taken (List ℕ)
pop_bridged t j [] = still []
pop_bridged t j (k ∷ []) = still (k ∷ [])
pop_bridged t j (k ∷ l ∷ q) = elim (bridged t j k l) [ true ↦ moved (move Pop k) (pop_bridged t j (l ∷ q)) | false ↦ still (k ∷ l ∷ q) ]

-- "Add the candidate."
abbrev pub added : ℕ → List ℕ → Taken (List ℕ)
added j q = moved (move Add j) (still (reverse (j ∷ q)))

unfoldable pub add : Text → ℕ → ℕ → List ℕ → Taken (List ℕ)
add t i j q = joined (joined (pop_worse t i j (reverse q)) (pop_bridged t j)) (added j)

-- the queue with the next candidate
pub record Standing : Type 0 where
  pub queue : List ℕ
  pub candidate : ℕ

-- "if it is above lmax, or the candidate has no setting, Pass it. Otherwise" pop and add
abbrev pub passes : Text → ℕ → ℕ → Bool
passes t i j = ltb t.lines.lmax (t.lines.line i j) || not (has_cost (t.best j))

unfoldable pub consider : Text → ℕ → ℕ → List ℕ → Taken (List ℕ)
consider t i j q = elim (passes t i j) [ true ↦ moved (move Pass j) (still q) | false ↦ add t i j q ]

-- "2. While Line(i, candidate) ≥ lmin: [..] The candidate then falls by one."
unfoldable pub candidates : Text → ℕ → ℕ → List ℕ → Taken Standing
candidates t i zero q = still (record { queue = q; candidate = zero })
candidates t i (suc c) q =
    elim (leb t.lines.lmin (t.lines.line i (suc c))) [
      | true ↦ joined (consider t i (suc c) q) (candidates t i c)
      | false ↦ still (record { queue = q; candidate = suc c })
    ]

-- "3. While two or more stand and F of the second is ≤ F of the front: Drop the front."
unfoldable pub drop_worse : Text → ℕ → List ℕ → Taken (List ℕ)
drop_worse t i [] = still []
drop_worse t i (j ∷ []) = still (j ∷ [])
drop_worse t i (j ∷ k ∷ q) = elim (leb (F t i k) (F t i j))
    [ true ↦ moved (move Drop j) (drop_worse t i (k ∷ q)) | false ↦ still (j ∷ k ∷ q) ]

-- rule 3 leaves the candidate where rule 2 left it
unfoldable pub settled : Text → ℕ → Standing → Taken Standing
settled t i s = joined (drop_worse t i s.queue) (λ q. still (record { queue = q; candidate = s.candidate }))

-- ---- all starts
unfoldable pub at_start : Text → ℕ → Standing → Taken Standing
at_start t i s = joined (joined (drop_long t i s.queue) (candidates t i s.candidate)) (settled t i)

-- "The next candidate begins at n+1. Starts go from n down to 1.": all moves of the first d starts, and what stands then
unfoldable pub after_starts : Text → ℕ → ℕ → Taken Standing
after_starts t n zero = still (record { queue = []; candidate = n + 1 })
after_starts t n (suc d) = joined (after_starts t n d) (at_start t (n - d))

-- start i of n: its moves, and what stands afterwards
unfoldable pub queue_at : Text → ℕ → ℕ → Taken Standing
queue_at t n i = at_start t i (after_starts t n (n - i)).stands

-- the moves of a paragraph
unfoldable pub queue_moves : Limits → List ℕ → List Move
queue_moves l ws = (after_starts (text_of l ws) (length ws) (length ws)).moves

-- ---- "Then the start takes n+1 if Line(i, n+1) ≤ lopt; otherwise the front is the chooser; with an empty queue there is no setting."
-- W-205: "a start whose remaining words, as one line, are shorter than lastmin has no setting. At such a start the front is no chooser."
abbrev pub front_best : Text → ℕ → List ℕ → Cost
front_best t i [] = none
front_best t i (j ∷ q) = some (F t i j)

abbrev pub front_next : List ℕ → ℕ
front_next [] = 0
front_next (j ∷ q) = j

-- the remaining words as one line: what is taken where that is shorter than the least last length, where it is at most lopt, and otherwise
abbrev pub by_rest : {A : Type 0} → Lines → ℕ → A → A → A → A
by_rest p i short free long = if (ltb (p.line i p.end) p.lastmin) short (if (leb (p.line i p.end) p.lopt) free long)

unfoldable pub taken_best : Text → ℕ → List ℕ → Cost
taken_best t i q = by_rest t.lines i none (some 0) (front_best t i q)

unfoldable pub taken_next : Text → ℕ → List ℕ → ℕ
taken_next t i q = by_rest t.lines i 0 t.lines.end (front_next q)
