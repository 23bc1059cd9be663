-- The best of every start as a function: a table filled from the end back, proved to satisfy Bellman's equation and so to
-- be the declarative best. Assumes nothing.
use Prim.Native.Nat.{ℕ, zero, suc, ◌+◌, ◌-◌, ◌≤◌, ◌<◌}
use Rattle.std.specs.Prelude.{◌≡◌, refl, Bool, true, false, List, [], ◌∷◌, T, length, get_or}
use Rattle.std.proofs.Math.Path.{ap}
use Rattle.std.proofs.Common.{sym, subst, ◌∙◌, ⊎_elim}
use native.Mathlib.Omega.{arith}
use Rattle.laws.specs.Number.{split}
use Rattle.laws.specs.Cost.{Cost, none, some, ◌≼◌, ≼_refl, ≼_trans, before, Attained, reached_map, Least, lower, lower_left}
use Rattle.laws.specs.Cost.{lower_right, lower_cases}
use Rattle.laws.specs.Setting.{Problem, Monotone, Choice, Best, best_unique, through, Step, bellman}

-- what the line from i to j costs, with a the cost of the rest; none where the line is not admissible
abbrev pub offer : Problem → ℕ → ℕ → Cost → Cost
offer p i j a = elim (p.fits i j) [ true ↦ before p.join (p.cost i j) a | false ↦ none ]

-- the least offer of the starts from j on, whose costs are listed
abbrev pub cheapest : Problem → ℕ → ℕ → List Cost → Cost
cheapest p i j [] = none
cheapest p i j (a ∷ bs) = lower (offer p i j a) (cheapest p i (suc j) bs)

-- the bests of i, i + 1, .., i + d, where i + d is the end
abbrev pub bests_from : Problem → ℕ → ℕ → List Cost
bests_from p zero i = some p.done ∷ []
bests_from p (suc d) i = let r = bests_from p d (suc i) in cheapest p i (suc i) r ∷ r

unfoldable pub best : Problem → ℕ → Cost
best p i = get_or (bests_from p (p.end - i) i) 0 none

-- ---- the least offer is the least over the choices
module _ (p : Problem) (b : ℕ → Cost) (i : ℕ) where
  -- the choices from j on
  abbrev From : ℕ → ℕ → Type 0
  From j k = (j ≤ k) × Choice p i k

  offer_low : (j : ℕ) (a : Cost) → a ≡ b j → (k : ℕ) → k ≡ j → From j k → offer p i j a ≼ through p b i k
  offer_low j a e k f h = go (p.fits i j) (subst (λ (m : ℕ). T (p.fits i m)) f h.1.admissible)
    where
      go : (t : Bool) → T t → elim t [ true ↦ before p.join (p.cost i j) a | false ↦ none ] ≼ through p b i k
      go true t = rw (e, f) (≼_refl (through p b i j))
      go false t = absurd t

  offer_reached : (j : ℕ) (a : Cost) → a ≡ b j → i < j → j ≤ p.end → Attained (From j) (through p b i) (offer p i j a)
  offer_reached j a e lt le = go (p.fits i j) (λ t. t) a e
    where
      go : (t : Bool) → (T t → T (p.fits i j)) → (a : Cost) → a ≡ b j →
          Attained (From j) (through p b i) (elim t [ true ↦ before p.join (p.cost i j) a | false ↦ none ])
      go false f a e = tt
      go true f none e = tt
      go true f (some u) e = (
        j,
        (omega arith, record { rises = lt; within = le; admissible = f tt }),
        ap (λ (c : Cost). before p.join (p.cost i j) c)
            (sym e),
      )

  -- one more start in front of the others
  module _ (j : ℕ) (a : Cost) (bs : List Cost) (here : a ≡ b j) (lt : i < j) (le : j ≤ p.end)
      (rest : Least (From (suc j)) (through p b i) (cheapest p i (suc j) bs)) where
    more_low : (k : ℕ) → From j k → cheapest p i j (a ∷ bs) ≼ through p b i k
    more_low k h =
        ⊎_elim
        (λ g. ≼_trans (cheapest p i j (a ∷ bs)) (offer p i j a) (through p b i k)
        (lower_left (offer p i j a) (cheapest p i (suc j) bs)) (offer_low j a here k (omega (arith, h.0)) h))
        (λ g. ≼_trans (cheapest p i j (a ∷ bs)) (cheapest p i (suc j) bs) (through p b i k)
        (lower_right (offer p i j a) (cheapest p i (suc j) bs)) (rest.low k (g, h.1)))
        (split k j)

    abbrev Reaching : Cost → Type 0
    Reaching c = Attained (From j) (through p b i) c

    more_reached : Attained (From j) (through p b i) (cheapest p i j (a ∷ bs))
    more_reached =
        ⊎_elim
        (λ e. subst Reaching (sym e) (offer_reached j a here lt le))
        (λ e. subst Reaching (sym e)
        (reached_map (From (suc j)) (From j) (through p b i) (λ k h. (omega (arith, h.0), h.1)) (cheapest p i (suc j) bs)
        rest.reached))
        (lower_cases (offer p i j a) (cheapest p i (suc j) bs))

  cheapest_least : (j : ℕ) (bs : List Cost) → i < j → j + length bs ≡ suc p.end →
      ((k : ℕ) → k < length bs → get_or bs k none ≡ b (j + k)) → Least (From j) (through p b i) (cheapest p i j bs)
  cheapest_least j [] lt len same = record { low = λ k h. absurd (omega (arith, h.0, h.1.within)); reached = tt }
  cheapest_least j (a ∷ bs) lt len same =
      let here : a ≡ b j = same 0 (omega arith) ∙ ap b (omega arith) in
      let rest = cheapest_least (suc j) bs (omega arith) (omega arith) (λ k h. same (suc k) (omega arith) ∙ ap b (omega arith)) in
      record { low = more_low j a bs here lt (omega arith) rest; reached = more_reached j a bs here lt (omega arith) rest }

-- ---- the table satisfies Bellman's equation
module _ (p : Problem) where
  bests_length : (d i : ℕ) → length (bests_from p d i) ≡ suc d
  bests_length zero i = refl
  bests_length (suc d) i = ap suc (bests_length d (suc i))

  bests_at : (d i k : ℕ) → i + d ≡ p.end → k ≤ d → get_or (bests_from p d i) k none ≡ best p (i + k)
  unfolding best
  bests_at d i zero e h =
      let f : p.end - (i + 0) ≡ d = omega arith in
      let g : i + 0 ≡ i = omega arith in
      rw (f, g)
  bests_at zero i (suc k) e h = absurd (omega arith)
  bests_at (suc d) i (suc k) e h =
      bests_at d (suc i) k (omega arith) (omega arith) ∙ ap (best p) (omega arith)

  best_cheapest : (i : ℕ) → i < p.end → best p i ≡ cheapest p i (suc i) (bests_from p (p.end - suc i) (suc i))
  unfolding best
  best_cheapest i h =
      let e : p.end - i ≡ suc (p.end - suc i) = omega arith in
      rw e

  pub best_steps : (i : ℕ) → i < p.end → Step p (best p) i (best p i)
  best_steps i h =
      rw (best_cheapest i h)
      (record {
        low = λ k c. least.low k (c.rises, c);
        reached = reached_map (From p (best p) i (suc i)) (Choice p i)
            (through p (best p) i) (λ k g. g.1) (cheapest p i (suc i) r) least.reached;
      })
    where
      r : List Cost
      r = bests_from p (p.end - suc i) (suc i)

      least : Least (From p (best p) i (suc i)) (through p (best p) i) (cheapest p i (suc i) r)
      least =
          cheapest_least p (best p) i (suc i) r (omega arith) (omega (arith, bests_length (p.end - suc i) (suc i)))
          (λ k g. bests_at (p.end - suc i) (suc i) k (omega arith) (omega (arith, bests_length (p.end - suc i) (suc i))))

  pub best_end : best p p.end ≡ some p.done
  unfolding best
  best_end = let e : p.end - p.end ≡ 0 = omega arith in rw e

  module _ (mono : Monotone p) where
    pub best_is : (i : ℕ) → i ≤ p.end → Best p i (best p i)
    best_is = bellman p mono (best p) best_end best_steps

    pub best_only : (i : ℕ) (c : Cost) → i ≤ p.end → Best p i c → c ≡ best p i
    best_only i c h b = best_unique p i c (best p i) h b (best_is i h)
