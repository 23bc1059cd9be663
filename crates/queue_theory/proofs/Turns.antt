-- The queue rules one turn at a time: what each gives where its test holds, and where it fails. For any text. Assumes nothing.
use Prim.Native.Nat.{ℕ, zero, suc, ◌+◌, ◌≤◌, ◌<◌}
use Rattle.std.specs.Prelude.{◌≡◌, Bool, ◌||◌, List, ◌∷◌, ltb}
use Rattle.std.proofs.Math.Path.{refl, ap}
use Rattle.std.proofs.Common.{sym, subst, ⊎_elim, arith, lt-ltb, le-ltb, le-leb}
use Rattle.std.proofs.Math.Bool.{true, false}
use Rattle.std.proofs.lemmas.Bool.{lt-leb}
use Rattle.laws.specs.Number.{split}
use Rattle.laws.specs.Cost.{Cost, none, some, Has, has_cost}
use Rattle.paper.specs.declared.Kind.TheVariants.{Pass, Drop, Pop}
use Rattle.paper.specs.Moves.{Taken, move, still, moved, joined}
use Rattle.paper.specs.QueueRules.{Text, F, bridged, drop_long, pop_worse, pop_bridged, add, passes, consider, candidates, drop_worse}

pub has_true : (c : Cost) → Has c → has_cost c ≡ true
has_true none h = absurd h
has_true (some v) h = refl

pub none_false : (c : Cost) → ¬ Has c → has_cost c ≡ false
none_false none h = refl
none_false (some v) h = absurd (h tt)

module _ (t : Text) (i : ℕ) where
  -- ---- rule 1
  pub drop_long_more : (j : ℕ) (q : List ℕ) → t.lines.lmax < t.lines.line i j →
      drop_long t i (j ∷ q) ≡ moved (move Drop j) (drop_long t i q)
  unfolding drop_long
  drop_long_more j q h = rw (lt-ltb t.lines.lmax (t.lines.line i j) h, drop_long)

  pub drop_long_stop : (j : ℕ) (q : List ℕ) → t.lines.line i j ≤ t.lines.lmax → drop_long t i (j ∷ q) ≡ still (j ∷ q)
  unfolding drop_long
  drop_long_stop j q h = rw (le-ltb t.lines.lmax (t.lines.line i j) h, drop_long)

  -- ---- rule 2
  pub pop_worse_more : (j k : ℕ) (q : List ℕ) → F t i j ≤ F t i k → pop_worse t i j (k ∷ q) ≡ moved (move Pop k) (pop_worse t i j q)
  unfolding pop_worse
  pop_worse_more j k q h = rw (le-leb (F t i j) (F t i k) h, pop_worse)

  pub pop_worse_stop : (j k : ℕ) (q : List ℕ) → F t i k < F t i j → pop_worse t i j (k ∷ q) ≡ still (k ∷ q)
  unfolding pop_worse
  pop_worse_stop j k q h = rw (lt-leb (F t i j) (F t i k) h, pop_worse)

  -- a candidate is passed where its line is above lmax or it has no setting, and not elsewhere
  passes_long : (j : ℕ) → t.lines.lmax < t.lines.line i j → passes t i j ≡ true
  passes_long j h = rw (lt-ltb t.lines.lmax (t.lines.line i j) h)

  passes_none : (j : ℕ) → ¬ Has (t.best j) → passes t i j ≡ true
  passes_none j h = rw (none_false (t.best j) h) (either (ltb t.lines.lmax (t.lines.line i j)))
    where
      either : (b : Bool) → (b || true) ≡ true
      either true = refl
      either false = refl

  passes_not : (j : ℕ) → t.lines.line i j ≤ t.lines.lmax → Has (t.best j) → passes t i j ≡ false
  passes_not j h has = rw (le-ltb t.lines.lmax (t.lines.line i j) h, has_true (t.best j) has)

  pub passes_gives : (j : ℕ) (P : Bool → Type 0) → ((t.lines.line i j ≤ t.lines.lmax → ¬ Has (t.best j)) → P true) →
      (t.lines.line i j ≤ t.lines.lmax → Has (t.best j) → P false) → P (passes t i j)
  passes_gives j P passed added =
      ⊎_elim
      (λ h. by_setting h (t.best j) refl)
      (λ h. subst P (sym (passes_long j h)) (passed (λ g. absurd (omega arith))))
      (split (t.lines.line i j) t.lines.lmax)
    where
      by_setting : t.lines.line i j ≤ t.lines.lmax → (c : Cost) → t.best j ≡ c → P (passes t i j)
      by_setting h none e = let g : ¬ Has (t.best j) = λ g. rw e at g in subst P (sym (passes_none j g)) (passed (λ k. g))
      by_setting h (some v) e = let g : Has (t.best j) = rw e tt in subst P (sym (passes_not j h g)) (added h g)

  consider_is : (j : ℕ) (q : List ℕ) (b : Bool) → passes t i j ≡ b →
      consider t i j q ≡ elim b [ true ↦ moved (move Pass j) (still q) | false ↦ add t i j q ]
  unfolding consider
  consider_is j q b e = ap (λ (c : Bool). elim c [ true ↦ moved (move Pass j) (still q) | false ↦ add t i j q ]) e

  pub consider_long : (j : ℕ) (q : List ℕ) → t.lines.lmax < t.lines.line i j → consider t i j q ≡ moved (move Pass j) (still q)
  consider_long j q h = consider_is j q true (passes_long j h)

  pub consider_none : (j : ℕ) (q : List ℕ) → ¬ Has (t.best j) → consider t i j q ≡ moved (move Pass j) (still q)
  consider_none j q h = consider_is j q true (passes_none j h)

  pub consider_pass : (j : ℕ) (q : List ℕ) → (t.lines.line i j ≤ t.lines.lmax → ¬ Has (t.best j)) →
      consider t i j q ≡ moved (move Pass j) (still q)
  consider_pass j q h = ⊎_elim (λ g. consider_none j q (h g)) (λ g. consider_long j q g) (split (t.lines.line i j) t.lines.lmax)

  pub consider_add : (j : ℕ) (q : List ℕ) → t.lines.line i j ≤ t.lines.lmax → Has (t.best j) → consider t i j q ≡ add t i j q
  consider_add j q h has = consider_is j q false (passes_not j h has)

  -- what a candidate gives: it is added where its line is within lmax and it has a setting, and otherwise passed
  pub consider_gives : (j : ℕ) (q : List ℕ) (P : Taken (List ℕ) → Type 0) →
      ((t.lines.line i j ≤ t.lines.lmax → ¬ Has (t.best j)) → P (moved (move Pass j) (still q))) →
      (t.lines.line i j ≤ t.lines.lmax → Has (t.best j) → P (add t i j q)) → P (consider t i j q)
  unfolding consider
  consider_gives j q P = passes_gives j (λ (b : Bool). P (elim b [ true ↦ moved (move Pass j) (still q) | false ↦ add t i j q ]))

  candidates_suc : (c : ℕ) (q : List ℕ) → t.lines.lmin ≤ t.lines.line i (suc c) →
      candidates t i (suc c) q ≡ joined (consider t i (suc c) q) (candidates t i c)
  unfolding candidates
  candidates_suc c q h = rw (le-leb t.lines.lmin (t.lines.line i (suc c)) h, candidates)

  pub candidates_more : (c j : ℕ) (q : List ℕ) → c + 1 ≡ j → t.lines.lmin ≤ t.lines.line i j →
      candidates t i j q ≡ joined (consider t i j q) (candidates t i c)
  candidates_more c j q e h = let g : j ≡ suc c = omega arith in rw g (candidates_suc c q (rw g at h))

  pub candidates_stop : (j : ℕ) (q : List ℕ) → t.lines.line i j < t.lines.lmin →
      candidates t i j q ≡ still (record { queue = q; candidate = j })
  unfolding candidates
  candidates_stop zero q h = refl
  candidates_stop (suc c) q h = rw (lt-leb t.lines.lmin (t.lines.line i (suc c)) h, candidates)

  -- ---- rule 3
  pub drop_worse_more : (j k : ℕ) (q : List ℕ) → F t i k ≤ F t i j →
      drop_worse t i (j ∷ k ∷ q) ≡ moved (move Drop j) (drop_worse t i (k ∷ q))
  unfolding drop_worse
  drop_worse_more j k q h = rw (le-leb (F t i k) (F t i j) h, drop_worse)

  pub drop_worse_stop : (j k : ℕ) (q : List ℕ) → F t i j < F t i k → drop_worse t i (j ∷ k ∷ q) ≡ still (j ∷ k ∷ q)
  unfolding drop_worse
  drop_worse_stop j k q h = rw (lt-leb (F t i k) (F t i j) h, drop_worse)

module _ (t : Text) (j : ℕ) where
  pub pop_bridged_more : (k l : ℕ) (q : List ℕ) → bridged t j k l ≡ true →
      pop_bridged t j (k ∷ l ∷ q) ≡ moved (move Pop k) (pop_bridged t j (l ∷ q))
  unfolding pop_bridged
  pop_bridged_more k l q h = rw (h, pop_bridged)

  pub pop_bridged_stop : (k l : ℕ) (q : List ℕ) → bridged t j k l ≡ false → pop_bridged t j (k ∷ l ∷ q) ≡ still (k ∷ l ∷ q)
  unfolding pop_bridged
  pop_bridged_stop k l q h = rw (h, pop_bridged)
