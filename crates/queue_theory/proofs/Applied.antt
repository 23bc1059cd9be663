-- 02, W-204: every length to which the queue rules apply the penalty formula at a start is inside the measure. Assumes nothing but what
-- each law states.
use Prim.Native.Nat.{ℕ, zero, suc, ◌+◌, ◌-◌, ◌≤◌, ◌<◌}
use Rattle.std.specs.Prelude.{Bool, leb}
use Rattle.std.proofs.Math.Bool.{true, false}
use mathlib.Core.List.{List, [], ◌∷◌, ◌++◌, reverse}
use Rattle.std.proofs.Common.{arith}
use Rattle.std.proofs.Math.Dec.{leb→le}
use Rattle.laws.specs.Members.{Every, every_if, every_join, every_reverse, Rises, pairs_reverse}
use Rattle.paper.specs.QueueRules.{Text, Standing, F, bridged, drop_long, pop_worse, consider, candidates, drop_worse}
use Rattle.paper.specs.Applied.{pop_worse_applied, pop_bridged_applied, add_applied, consider_applied, candidates_applied}
use Rattle.paper.specs.Applied.{drop_worse_applied, front_applied, start_applied}
use Rattle.queue_theory.specs.Scales.{Scaled}
use Rattle.queue_theory.proofs.Turns.{passes_gives}
use Rattle.queue_theory.proofs.Leaves.{pop_worse_every, pop_worse_pairs, drop_worse_every}
use Rattle.queue_theory.specs.Ready.{Measured, Held, Stood}
use Rattle.queue_theory.proofs.Ready.{measured_apart, drop_long_held, considered_live, consider_held, candidates_held}
use Rattle.queue_theory.specs.Applied.{InMeasure}

module _ {t : Text} (s : Scaled t) {i : ℕ} (start : 1 ≤ i) where
  -- F of a break that is measured
  line_inside : {k : ℕ} → Measured t i k → InMeasure t (t.lines.line i k)
  line_inside v = (v.low, v.high)

  -- a side of "bridged"
  side_inside : {j k : ℕ} → j < k → Measured t i j → Measured t i k → InMeasure t (t.lines.lmax - t.apart j k)
  side_inside {j} {k} jk v w = (omega (arith, measured_apart s {j = j} {k = k} start (omega arith) v w), omega arith)

  pop_worse_inside : (j : ℕ) (q : List ℕ) → Measured t i j → Every (Measured t i) q → Every (InMeasure t) (pop_worse_applied t i j q)
  unfolding pop_worse_applied
  pop_worse_inside j [] new live = tt
  pop_worse_inside j (k ∷ q) new live =
      let more = every_if (InMeasure t) (leb (F t i j) (F t i k)) (pop_worse_applied t i j q) (λ b. pop_worse_inside j q new live.1) in
      (line_inside new, (line_inside live.0, more))

  pop_bridged_inside : (j : ℕ) (q : List ℕ) → Measured t i j → Every (λ (k : ℕ). j < k) q → Rises q → Every (Measured t i) q →
      Every (InMeasure t) (pop_bridged_applied t j q)
  unfolding pop_bridged_applied
  pop_bridged_inside j [] new above up live = tt
  pop_bridged_inside j (k ∷ []) new above up live = tt
  pop_bridged_inside j (k ∷ m ∷ q) new above up live =
      let more = every_if (InMeasure t) (bridged t j k m) (pop_bridged_applied t j (m ∷ q))
      (λ b. pop_bridged_inside j (m ∷ q) new above.1 up.1 live.1) in
      (side_inside up.0.0 live.0 live.1.0, (side_inside above.1.0 new live.1.0, more))

  add_inside : (j : ℕ) (q : List ℕ) → Measured t i j → Held t i j q → Every (InMeasure t) (add_applied t i j q)
  add_inside j q new h =
      let r = (pop_worse t i j (reverse q)).stands in
      let live = every_reverse (Measured t i) q h.live in
      every_join (InMeasure t) (pop_worse_applied t i j (reverse q)) (pop_bridged_applied t j r)
      (pop_worse_inside j (reverse q) new live)
      (pop_bridged_inside j r new
      (pop_worse_every t (λ (k : ℕ). j < k) i j (reverse q) (every_reverse (λ (k : ℕ). j < k) q h.below))
      (pop_worse_pairs t (λ (a b : ℕ). a < b) i j (reverse q) (pairs_reverse (λ (a b : ℕ). b < a) q h.falls))
      (pop_worse_every t (Measured t i) i j (reverse q) live))

  consider_inside : (j : ℕ) (q : List ℕ) → Held t i j q → t.lines.lmin ≤ t.lines.line i j →
      Every (InMeasure t) (consider_applied t i j q)
  unfolding consider_applied
  consider_inside j q h reach =
      passes_gives t i j (λ (b : Bool). Every (InMeasure t) (elim b [ true ↦ [] | false ↦ add_applied t i j q ]))
      (λ out. tt)
      (λ high has. add_inside j q (considered_live s start h reach high has) h)

  candidates_inside : (c : ℕ) (q : List ℕ) → Held t i c q → Every (InMeasure t) (candidates_applied t i c q)
  unfolding candidates_applied
  candidates_inside zero q h = tt
  candidates_inside (suc c) q h =
      let one = consider_applied t i (suc c) q in
      let more = candidates_applied t i c (consider t i (suc c) q).stands in
      every_if (InMeasure t) (leb t.lines.lmin (t.lines.line i (suc c))) (one ++ more) (λ b.
      let reach = leb→le t.lines.lmin (t.lines.line i (suc c)) b in
      every_join (InMeasure t) one more (consider_inside (suc c) q h reach)
      (candidates_inside c (consider t i (suc c) q).stands (consider_held s start h reach c (omega arith))))

  drop_worse_inside : (q : List ℕ) → Every (Measured t i) q → Every (InMeasure t) (drop_worse_applied t i q)
  unfolding drop_worse_applied
  drop_worse_inside [] live = tt
  drop_worse_inside (j ∷ []) live = tt
  drop_worse_inside (j ∷ k ∷ q) live =
      let more = every_if (InMeasure t) (leb (F t i k) (F t i j)) (drop_worse_applied t i (k ∷ q))
      (λ b. drop_worse_inside (k ∷ q) live.1) in
      (line_inside live.1.0, (line_inside live.0, more))

  front_inside : (q : List ℕ) → Every (Measured t i) q → Every (InMeasure t) (front_applied t i q)
  unfolding front_applied
  front_inside [] live = tt
  front_inside (j ∷ q) live = (line_inside live.0, tt)

  -- all rules of a start
  pub start_inside : (v : Standing) → Stood t (i + 1) v → Every (InMeasure t) (start_applied t i v)
  unfolding start_applied
  start_inside v r =
      let q = (drop_long t i v.queue).stands in
      let h = drop_long_held s start v.candidate v.queue r.held in
      let m = (candidates t i v.candidate q).stands.queue in
      let live = (candidates_held s start v.candidate q h).held.live in
      let front = (drop_worse t i m).stands in
      every_join (InMeasure t) (candidates_applied t i v.candidate q) (drop_worse_applied t i m ++ front_applied t i front)
      (candidates_inside v.candidate q h)
      (every_join (InMeasure t) (drop_worse_applied t i m) (front_applied t i front) (drop_worse_inside m live)
      (front_inside front (drop_worse_every t (Measured t i) i m live)))
