-- 02, W-204: "The breaker never meets "outside" where the queue rules apply the formula". Here are the lengths to which they apply it at a
-- start, and no others but that of a front that is no chooser. The sentence itself is queue_theory's `never_outside`; that no length is
-- missing here is its `at_start_same` and `taken_same`: a formula that agrees on these lengths alone takes the same moves, best and next.
use Rattle.std.specs.Prelude.{ℕ, zero, suc, ◌-◌, true, false, List, [], ◌∷◌, ◌++◌, reverse, leb, length}
use Rattle.paper.specs.declared.Limits.{Limits}
use Rattle.paper.specs.QueueRules.{Text, Standing, text_of, F, bridged, drop_long, pop_worse, passes, consider, candidates, drop_worse}
use Rattle.paper.specs.QueueRules.{after_starts}

-- "Pop the rear while F(i, candidate) ≤ F(i, rear)", on the queue from rear to front: F of both
unfoldable pub pop_worse_applied : Text → ℕ → ℕ → List ℕ → List ℕ
pop_worse_applied t i j [] = []
pop_worse_applied t i j (k ∷ q) =
    t.lines.line i j ∷ t.lines.line i k ∷ elim (leb (F t i j) (F t i k)) [ true ↦ pop_worse_applied t i j q | false ↦ [] ]

-- "Pop the rear while two or more stand and the rear is bridged", on the queue from rear to front: both sides of the first
-- test of "bridged"
unfoldable pub pop_bridged_applied : Text → ℕ → List ℕ → List ℕ
pop_bridged_applied t j [] = []
pop_bridged_applied t j (k ∷ []) = []
pop_bridged_applied t j (k ∷ l ∷ q) =
    (t.lines.lmax - t.apart k l) ∷ (t.lines.lmax - t.apart j l)
    ∷ elim (bridged t j k l) [ true ↦ pop_bridged_applied t j (l ∷ q) | false ↦ [] ]

-- both pops
abbrev pub add_applied : Text → ℕ → ℕ → List ℕ → List ℕ
add_applied t i j q = pop_worse_applied t i j (reverse q) ++ pop_bridged_applied t j (pop_worse t i j (reverse q)).stands

-- "Pass it. Otherwise" pop and add
unfoldable pub consider_applied : Text → ℕ → ℕ → List ℕ → List ℕ
consider_applied t i j q = elim (passes t i j) [ true ↦ [] | false ↦ add_applied t i j q ]

-- "2. While Line(i, candidate) ≥ lmin"
unfoldable pub candidates_applied : Text → ℕ → ℕ → List ℕ → List ℕ
candidates_applied t i zero q = []
candidates_applied t i (suc c) q =
    elim (leb t.lines.lmin (t.lines.line i (suc c))) [
      | true ↦ consider_applied t i (suc c) q ++ candidates_applied t i c (consider t i (suc c) q).stands
      | false ↦ []
    ]

-- "3. While two or more stand and F of the second is ≤ F of the front": F of both
unfoldable pub drop_worse_applied : Text → ℕ → List ℕ → List ℕ
drop_worse_applied t i [] = []
drop_worse_applied t i (j ∷ []) = []
drop_worse_applied t i (j ∷ k ∷ q) =
    t.lines.line i k ∷ t.lines.line i j ∷ elim (leb (F t i k) (F t i j)) [ true ↦ drop_worse_applied t i (k ∷ q) | false ↦ [] ]

-- "otherwise the front is the chooser": F of the front, listed also where n+1 is taken
unfoldable pub front_applied : Text → ℕ → List ℕ → List ℕ
front_applied t i [] = []
front_applied t i (j ∷ q) = t.lines.line i j ∷ []

-- all of a start, on what stood before it
unfoldable pub start_applied : Text → ℕ → Standing → List ℕ
start_applied t i s =
    let q = (drop_long t i s.queue).stands in
    let m = (candidates t i s.candidate q).stands.queue in
    candidates_applied t i s.candidate q ++ (drop_worse_applied t i m ++ front_applied t i (drop_worse t i m).stands)

-- start i of a paragraph
unfoldable pub applied : Limits → List ℕ → ℕ → List ℕ
applied l ws i = start_applied (text_of l ws) i (after_starts (text_of l ws) (length ws) (length ws - i)).stands
