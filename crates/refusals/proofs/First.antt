-- What the library's searches of a list find is what 01's numbers of a first entry say. Assumes nothing.
use Rattle.std.proofs.Common.{ℕ, suc, ◌+◌, ◌≤◌, ◌≡◌, refl, sym, ◌∙◌, ap, inl, inr, List, [], ◌∷◌, Option, Some, None}
use Rattle.std.proofs.Common.{Bool, true, false, not, ◌&&◌, cond, eqb, leb, nat_lt, arith, add-one, ne_eqb, le-ltb, lt-ltb}
use Rattle.std.proofs.lemmas.Bool.Decides.{leb_tells}
use Rattle.std.specs.List.{fold, position, position_from}
use Rattle.std.proofs.lemmas.List.Folds.{fold_stays}
use Rattle.std.proofs.lemmas.Iterator.Adapters.{position_from-zero}
use Rattle.paper.specs.Told.{first_failing, first_short}
use Rattle.refusals.specs.Checks.{has_of, needs_of}

-- a place from 0 on as a number from 1 on, 0 for none
number_of : Option ℕ → ℕ
number_of None = 0
number_of (Some k) = k + 1

-- the first entry that a test finds, where the test is true of just those entries that fail
module _ {A : Type 0} (bad ok : A → Bool) (e : (x : A) → bad x ≡ not (ok x)) where
  from_place : (i : ℕ) (xs : List A) → number_of (position_from bad i xs) ≡ first_failing ok (suc i) xs
  unfolding number_of first_failing
  from_place i [] = refl
  from_place i (x ∷ xs) = rw (e x) (go (ok x) (from_place (suc i) xs))
    where
      go : (b : Bool) → number_of (position_from bad (suc i) xs) ≡ first_failing ok (suc (suc i)) xs →
          ◌≡◌ {A = ℕ} (number_of (cond (not b) (Some i) (position_from bad (i + 1) xs)))
          (elim b [ true ↦ first_failing ok (suc (suc i)) xs | false ↦ suc i ])
      go true later = rw (add-one i) later
      go false later = add-one i

  place : (xs : List A) → number_of (position bad xs) ≡ first_failing ok 1 xs
  place xs = rw (position_from-zero bad xs) (from_place 0 xs)

  pub failing_at : (xs : List A) {k : ℕ} → position bad xs ≡ Some k → first_failing ok 1 xs ≡ k + 1
  unfolding number_of
  failing_at xs f = sym (place xs) ∙ (rw f)

  pub failing_never : (xs : List A) → position bad xs ≡ None → first_failing ok 1 xs ≡ 0
  unfolding number_of
  failing_never xs f = sym (place xs) ∙ (rw f)

-- whether all entries pass a test
module _ {A : Type 0} (ok : A → Bool) where
  failing_low : (i : ℕ) (xs : List A) → 1 ≤ i → fold (λ hold x. hold && ok x) true xs ≡ eqb (first_failing ok i xs) 0
  unfolding first_failing
  failing_low i [] h = refl
  failing_low i (x ∷ xs) h = go (ok x) (failing_low (suc i) xs (omega arith))
    where
      go : (b : Bool) → fold (λ hold x. hold && ok x) true xs ≡ eqb (first_failing ok (suc i) xs) 0 →
          fold (λ hold x. hold && ok x) b xs ≡ eqb (elim b as (λ _. ℕ) [ true ↦ first_failing ok (suc i) xs | false ↦ i ]) 0
      go true later = later
      go false later = fold_stays _ _ (λ x. refl) xs ∙ sym (ne_eqb i 0 (λ z. omega arith))

  pub all_failing : (xs : List A) → fold (λ hold x. hold && ok x) true xs ≡ eqb (first_failing ok 1 xs) 0
  all_failing xs = failing_low 1 xs (omega arith)

-- ---- the strips' numbers are those of a list of what each has and needs
roomy : ℕ × ℕ → Bool
roomy s = leb s.1 s.0

short : (s : ℕ × ℕ) → nat_lt s.0 s.1 ≡ not (roomy s)
unfolding roomy
short s = elim (leb_tells s.1 s.0) [ inl (t, h) ↦ rw (t, le-ltb _ _ h) | inr (t, h) ↦ rw (t, lt-ltb _ _ h) ]

short_is : (k : ℕ) (strips : List (ℕ × ℕ)) → first_short k (has_of strips) (needs_of strips) ≡ first_failing roomy k strips
unfolding first_short first_failing roomy
short_is k [] = refl
short_is k (s ∷ strips) = ap (λ (later : ℕ). elim (leb s.1 s.0) as (λ _. ℕ) [ true ↦ later | false ↦ k ]) (short_is (suc k) strips)

module _ (strips : List (ℕ × ℕ)) where
  pub short_at : {k : ℕ} → position (λ (s : ℕ × ℕ). nat_lt s.0 s.1) strips ≡ Some k →
      first_short 1 (has_of strips) (needs_of strips) ≡ k + 1
  short_at f = short_is 1 strips ∙ failing_at _ roomy short strips f

  pub short_never : position (λ (s : ℕ × ℕ). nat_lt s.0 s.1) strips ≡ None → first_short 1 (has_of strips) (needs_of strips) ≡ 0
  short_never f = short_is 1 strips ∙ failing_never _ roomy short strips f
