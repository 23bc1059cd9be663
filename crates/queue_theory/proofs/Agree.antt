-- Two texts that agree where the queue rules look take the same moves at a start and leave the same queue: on lines from the start,
-- between its later breaks, on their bests, and on the penalty formula at the lengths to which it is applied. Assumes nothing but what each
-- law states.
use Prim.Native.Nat.{ℕ, zero, suc, ◌+◌, ◌-◌, ◌≤◌, ◌<◌}
use Rattle.std.specs.Prelude.{◌≡◌, Bool}
use Rattle.std.proofs.Math.Path.{refl, ap, sym}
use Rattle.std.proofs.Common.{subst, ◌∙◌, le-leb}
use Rattle.std.proofs.Math.Logic.{⊎_elim}
use Rattle.std.proofs.Math.Bool.{true, false}
use mathlib.Core.List.{List, [], ◌∷◌, ◌++◌, reverse}
use native.Mathlib.Omega.{arith}
use Rattle.laws.specs.Number.{split, tested}
use Rattle.laws.specs.Cost.{Cost, none, some, Has}
use Rattle.laws.specs.Members.{Every, every_map, every_left, every_right, every_reverse, Rises, pairs_reverse}
use Rattle.paper.specs.declared.Kind.TheVariants.{Pass, Drop, Pop}
use Rattle.paper.specs.Moves.{Taken, move, still, moved, joined}
use Rattle.paper.specs.QueueRules.{Text, Standing, F, edge, chord, bridged, drop_long, pop_worse, pop_bridged, added, add, consider}
use Rattle.paper.specs.QueueRules.{candidates, drop_worse, settled, at_start, after_starts, front_best, by_rest, taken_best, taken_next}
use Rattle.paper.specs.Applied.{pop_worse_applied, pop_bridged_applied, add_applied, consider_applied, candidates_applied}
use Rattle.paper.specs.Applied.{drop_worse_applied, front_applied, start_applied}
use Rattle.queue_theory.specs.Scales.{Scaled}
use Rattle.queue_theory.proofs.Turns.{drop_long_more, drop_long_stop, pop_worse_more, pop_worse_stop, pop_bridged_more, pop_bridged_stop}
use Rattle.queue_theory.proofs.Turns.{consider_pass, consider_add, passes_gives, candidates_more, candidates_stop, drop_worse_more}
use Rattle.queue_theory.proofs.Turns.{drop_worse_stop}
use Rattle.queue_theory.proofs.Leaves.{pop_worse_every, pop_worse_pairs}
use Rattle.queue_theory.specs.Ready.{Measured, Held, Stood}
use Rattle.queue_theory.proofs.Ready.{drop_long_held, considered_above, considered_live, consider_held, candidates_held, stood}
use Rattle.queue_theory.specs.Applied.{InMeasure}
use Rattle.queue_theory.proofs.Applied.{start_inside}
use Rattle.queue_theory.specs.Agree.{text_with, Agrees}

-- alike at first, and alike on what stands then
pub joined_same : {A B : Type 0} (a b : Taken A) (f g : A → Taken B) → a ≡ b → f b.stands ≡ g b.stands → joined a f ≡ joined b g
joined_same a b f g e h = rw (e, h)

module _ {t : Text} (s : Scaled t) (end : ℕ) (formula : ℕ → ℕ) {lines : ℕ → ℕ → ℕ} (breaks : ℕ → ℕ) {aparts : ℕ → ℕ → ℕ}
    {bests : ℕ → Cost} {i : ℕ} (start : 1 ≤ i) (agrees : Agrees t lines aparts bests i) where
  abbrev u : Text
  u = text_with t end formula lines breaks aparts bests

  abbrev Same : ℕ → Type 0
  Same x = formula x ≡ t.lines.penalty x

  -- ---- the tests
  F_same : (j : ℕ) → Measured t i j → Same (t.lines.line i j) → F u i j ≡ F t i j
  unfolding F
  F_same j v same =
      rw (agrees.later j v.above v.within, agrees.from_start j (omega (arith, v.above)) v.within, same)

  bridged_same : (j k m : ℕ) → j < k → k < m → Measured t i j → Measured t i k → Measured t i m →
      Same (t.lines.lmax - t.apart k m) → Same (t.lines.lmax - t.apart j m) → bridged u j k m ≡ bridged t j k m
  unfolding edge chord
  bridged_same j k m jk km x v w near far =
      rw (
        agrees.later j x.above x.within,
        agrees.later k v.above v.within,
        agrees.later m w.above w.within,
        agrees.between j k x.above (omega arith) v.within,
        agrees.between j m x.above (omega arith) w.within,
        agrees.between k m v.above (omega arith) w.within,
        near,
        far,
      )

  -- ---- the rules
  drop_long_same : (q : List ℕ) → Every (Measured t (i + 1)) q → drop_long u i q ≡ drop_long t i q
  unfolding drop_long
  drop_long_same [] live = refl
  drop_long_same (j ∷ q) live =
      let e : lines i j ≡ t.lines.line i j = agrees.from_start j (omega (arith, live.0.above)) live.0.within in
      ⊎_elim
      (λ h. drop_long_stop u i j q (omega arith) ∙ sym (drop_long_stop t i j q h))
      (λ h. drop_long_more u i j q (omega arith) ∙ ap (moved (move Drop j)) (drop_long_same q live.1) ∙ sym (drop_long_more t i j q h))
      (split (t.lines.line i j) t.lines.lmax)

  pop_worse_same : (j : ℕ) (q : List ℕ) → Measured t i j → Every (Measured t i) q → Every Same (pop_worse_applied t i j q) →
      pop_worse u i j q ≡ pop_worse t i j q
  unfolding pop_worse pop_worse_applied
  pop_worse_same j [] new live same = refl
  pop_worse_same j (k ∷ q) new live same =
      let a = F_same j new same.0 in
      let b = F_same k live.0 same.1.0 in
      ⊎_elim
      (λ h. pop_worse_more u i j k q (omega arith)
      ∙ ap (moved (move Pop k)) (pop_worse_same j q new live.1 (rw (le-leb (F t i j) (F t i k) h) at same.1.1))
      ∙ sym (pop_worse_more t i j k q h))
      (λ h. pop_worse_stop u i j k q (omega arith) ∙ sym (pop_worse_stop t i j k q h))
      (split (F t i j) (F t i k))

  pop_bridged_same : (j : ℕ) (q : List ℕ) → Measured t i j → Every (λ (k : ℕ). j < k) q → Rises q → Every (Measured t i) q →
      Every Same (pop_bridged_applied t j q) → pop_bridged u j q ≡ pop_bridged t j q
  unfolding pop_bridged pop_bridged_applied
  pop_bridged_same j [] new above up live same = refl
  pop_bridged_same j (k ∷ []) new above up live same = refl
  pop_bridged_same j (k ∷ m ∷ q) new above up live same =
      let e = bridged_same j k m above.0 up.0.0 new live.0 live.1.0 same.0 same.1.0 in
      ⊎_elim
      (λ h. pop_bridged_more u j k m q (e ∙ h)
      ∙ ap (moved (move Pop k)) (pop_bridged_same j (m ∷ q) new above.1 up.1 live.1 (rw h at same.1.1))
      ∙ sym (pop_bridged_more t j k m q h))
      (λ h. pop_bridged_stop u j k m q (e ∙ h) ∙ sym (pop_bridged_stop t j k m q h))
      (tested (bridged t j k m))

  add_same : (j : ℕ) (q : List ℕ) → Measured t i j → Held t i j q → Every Same (add_applied t i j q) → add u i j q ≡ add t i j q
  unfolding add
  add_same j q new h same =
      let r = pop_worse t i j (reverse q) in
      let worse = pop_worse_applied t i j (reverse q) in
      let bridged = pop_bridged_applied t j r.stands in
      let live = every_reverse (Measured t i) q h.live in
      joined_same (joined (pop_worse u i j (reverse q)) (pop_bridged u j)) (joined r (pop_bridged t j)) (added j) (added j)
      (joined_same (pop_worse u i j (reverse q)) r (pop_bridged u j) (pop_bridged t j)
      (pop_worse_same j (reverse q) new live (every_left Same worse bridged same))
      (pop_bridged_same j r.stands new
      (pop_worse_every t (λ (k : ℕ). j < k) i j (reverse q) (every_reverse (λ (k : ℕ). j < k) q h.below))
      (pop_worse_pairs t (λ (a b : ℕ). a < b) i j (reverse q) (pairs_reverse (λ (a b : ℕ). b < a) q h.falls))
      (pop_worse_every t (Measured t i) i j (reverse q) live)
      (every_right Same worse bridged same)))
      refl

  drop_worse_same : (q : List ℕ) → Every (Measured t i) q → Every Same (drop_worse_applied t i q) → drop_worse u i q ≡ drop_worse t i q
  unfolding drop_worse drop_worse_applied
  drop_worse_same [] live same = refl
  drop_worse_same (j ∷ []) live same = refl
  drop_worse_same (j ∷ k ∷ q) live same =
      let a = F_same j live.0 same.1.0 in
      let b = F_same k live.1.0 same.0 in
      ⊎_elim
      (λ h. drop_worse_more u i j k q (omega arith)
      ∙ ap (moved (move Drop j)) (drop_worse_same (k ∷ q) live.1 (rw (le-leb (F t i k) (F t i j) h) at same.1.1))
      ∙ sym (drop_worse_more t i j k q h))
      (λ h. drop_worse_stop u i j k q (omega arith) ∙ sym (drop_worse_stop t i j k q h))
      (split (F t i k) (F t i j))

  consider_same : (j : ℕ) (q : List ℕ) → Held t i j q → t.lines.lmin ≤ t.lines.line i j → Every Same (consider_applied t i j q) →
      consider u i j q ≡ consider t i j q
  unfolding consider consider_applied
  consider_same j q h reach =
      let e : lines i j ≡ t.lines.line i j = agrees.from_start j h.near h.within in
      let f : bests j ≡ t.best j = agrees.later j (considered_above s start h reach) h.within in
      passes_gives t i j
      (λ (b : Bool). Every Same (elim b [ true ↦ [] | false ↦ add_applied t i j q ]) →
      consider u i j q ≡ elim b [ true ↦ moved (move Pass j) (still q) | false ↦ add t i j q ])
      (λ out same. consider_pass u i j q (λ high has. out (omega arith) (subst Has f has)))
      (λ high has same. consider_add u i j q (omega arith) (subst Has (sym f) has)
      ∙ add_same j q (considered_live s start h reach high has) h same)

  candidates_same : (c : ℕ) (q : List ℕ) → Held t i c q → Every Same (candidates_applied t i c q) → candidates u i c q ≡ candidates t i c q
  unfolding candidates_applied
  candidates_same zero q h same = absurd (omega (arith, h.near))
  candidates_same (suc c) q h same =
      let e : c + 1 ≡ suc c = omega arith in
      let f : lines i (suc c) ≡ t.lines.line i (suc c) = agrees.from_start (suc c) h.near h.within in
      let one = consider_applied t i (suc c) q in
      let more = candidates_applied t i c (consider t i (suc c) q).stands in
      ⊎_elim
      (λ reach.
      let each : Every Same (one ++ more) = rw (le-leb t.lines.lmin (t.lines.line i (suc c)) reach, Every) at same in
      candidates_more u i c (suc c) q e (omega arith)
      ∙ joined_same (consider u i (suc c) q) (consider t i (suc c) q) (candidates u i c) (candidates t i c)
      (consider_same (suc c) q h reach (every_left Same one more each))
      (candidates_same c (consider t i (suc c) q).stands (consider_held s start h reach c e) (every_right Same one more each))
      ∙ sym (candidates_more t i c (suc c) q e reach))
      (λ short. candidates_stop u i (suc c) q (omega arith) ∙ sym (candidates_stop t i (suc c) q short))
      (split t.lines.lmin (t.lines.line i (suc c)))

  pub at_start_same : (v : Standing) → Stood t (i + 1) v → Every Same (start_applied t i v) → at_start u i v ≡ at_start t i v
  unfolding at_start settled start_applied
  at_start_same v r same =
      let a = drop_long t i v.queue in
      let h = drop_long_held s start v.candidate v.queue r.held in
      let b = joined a (candidates t i v.candidate) in
      let m = b.stands.queue in
      let tried = candidates_applied t i v.candidate a.stands in
      let dropped = drop_worse_applied t i m in
      let front = front_applied t i (drop_worse t i m).stands in
      let rest = every_right Same tried (dropped ++ front) same in
      joined_same (joined (drop_long u i v.queue) (candidates u i v.candidate)) b (settled u i) (settled t i)
      (joined_same (drop_long u i v.queue) a (candidates u i v.candidate) (candidates t i v.candidate)
      (drop_long_same v.queue r.held.live)
      (candidates_same v.candidate a.stands h (every_left Same tried (dropped ++ front) same)))
      (ap (λ (d : Taken (List ℕ)). joined d (λ (q : List ℕ). still (record { queue = q; candidate = b.stands.candidate })))
      (drop_worse_same m (candidates_held s start v.candidate a.stands h).held.live (every_left Same dropped front rest)))

  -- what the start takes
  pub taken_same : i ≤ t.lines.end → end ≡ t.lines.end → (q : List ℕ) → Every (Measured t i) q → Every Same (front_applied t i q) →
      (taken_best u i q ≡ taken_best t i q) × (taken_next u i q ≡ taken_next t i q)
  unfolding taken_best taken_next front_applied
  taken_same inside e q live same =
      let w : lines i end ≡ t.lines.line i t.lines.end = ap (lines i) e ∙ agrees.from_start t.lines.end inside (omega arith) in
      (rw w (ap (by_rest t.lines i none (some 0)) (front q live same)), rw (w, e))
    where
      front : (q : List ℕ) → Every (Measured t i) q → Every Same (front_applied t i q) → front_best u i q ≡ front_best t i q
      front [] v same = refl
      front (j ∷ q) v same = ap some (F_same j v.0 same.0)

-- So a formula that agrees inside the measure takes the same moves and leaves the same queue at every start.
pub formula_same : {t : Text} (s : Scaled t) (n : ℕ) → t.lines.end ≡ n + 1 → (formula : ℕ → ℕ) →
    ((x : ℕ) → InMeasure t x → formula x ≡ t.lines.penalty x) → {bests : ℕ → Cost} →
    ((k : ℕ) → 1 ≤ k → k ≤ t.lines.end → bests k ≡ t.best k) → (d : ℕ) → d ≤ n →
    after_starts (text_with t t.lines.end formula t.lines.line t.lines.break t.apart bests) n d ≡ after_starts t n d
unfolding after_starts
formula_same s n size formula same later zero h = refl
formula_same {t} s n size formula same {bests} later (suc d) h =
    let a = after_starts t n d in
    let u : Text = text_with t t.lines.end formula t.lines.line t.lines.break t.apart bests in
    let before = stood s n size d (omega arith) in
    joined_same (after_starts u n d) a (at_start u (n - d)) (at_start t (n - d))
    (formula_same s n size formula same later d (omega arith))
    (at_start_same s t.lines.end formula t.lines.break (omega arith)
    (record { from_start = λ k g f. refl; between = λ j k g f e. refl; later = λ k g f. later k (omega arith) f })
    a.stands before
    (every_map (InMeasure t) (λ (x : ℕ). formula x ≡ t.lines.penalty x) same (start_applied t (n - d) a.stands)
    (start_inside s (omega arith) a.stands before)))
