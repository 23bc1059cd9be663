-- The smallest and the largest index of a range that passes a test, 0 where none does; and the tie rule that picks one of
-- the two. A range is d indices from lo on. Assumes nothing.
use Rattle.std.specs.Prelude.{ℕ, zero, suc, ◌+◌, ◌≤◌, ◌<◌, ◌≡◌, refl, ◌⊎◌, Bool, true, false, T}
use Rattle.std.proofs.Common.{ap, sym, subst, ◌∙◌, inl, inr, ⊎_elim, arith}
use Rattle.laws.specs.Number.{split}

-- Between equal choices the smallest index is taken, or the largest.
pub data Tie : Type 0 where
  smallest : Tie
  largest : Tie

-- j is taken before k, or is k
abbrev pub Ahead : Tie → ℕ → ℕ → Type 0
Ahead smallest j k = j ≤ k
Ahead largest j k = k ≤ j

-- k passes, and is taken before every other of the range that passes
pub record Found (tie : Tie) (P : ℕ → Bool) (lo d k : ℕ) : Type 0 where
  pub from : lo ≤ k
  pub below : k < lo + d
  pub passes : T (P k)
  pub ahead : (j : ℕ) → lo ≤ j → j < lo + d → T (P j) → Ahead tie k j

-- no index of the range passes, and k is 0
pub record Missing (P : ℕ → Bool) (lo d k : ℕ) : Type 0 where
  pub nought : k ≡ 0
  pub fails : (j : ℕ) → lo ≤ j → j < lo + d → ¬ T (P j)

abbrev pub Picked : Tie → (ℕ → Bool) → ℕ → ℕ → ℕ → Type 0
Picked tie P lo d k = Found tie P lo d k ⊎ Missing P lo d k

-- ---- computed
abbrev pub first : (ℕ → Bool) → ℕ → ℕ → ℕ
first P lo zero = 0
first P lo (suc d) = elim (P lo) [ true ↦ lo | false ↦ first P (suc lo) d ]

abbrev pub last : (ℕ → Bool) → ℕ → ℕ → ℕ
last P lo zero = 0
last P lo (suc d) = elim (P (lo + d)) [ true ↦ lo + d | false ↦ last P lo d ]

abbrev pub pick : Tie → (ℕ → Bool) → ℕ → ℕ → ℕ
pick smallest P lo d = first P lo d
pick largest P lo d = last P lo d

-- ---- what is computed is what is picked
refuted : {b : Bool} → b ≡ false → ¬ T b
refuted e t = subst T e t

first_is : (P : ℕ → Bool) (lo d : ℕ) → Picked smallest P lo d (first P lo d)
first_is P lo zero = inr (record { nought = refl; fails = λ j p q. absurd (omega arith) })
first_is P lo (suc d) = go (P lo) refl (first_is P (suc lo) d)
  where
    go : (b : Bool) → P lo ≡ b → Picked smallest P (suc lo) d (first P (suc lo) d) →
        Picked smallest P lo (suc d) (elim b [ true ↦ lo | false ↦ first P (suc lo) d ])
    go true e rest = inl (record {
      from = omega arith;
      below = omega arith;
      passes = subst T (sym e) tt;
      ahead = λ j p q t. p;
    })
    go false e (inl f) = inl (record {
      from = omega (arith, f.from);
      below = omega (arith, f.below);
      passes = f.passes;
      ahead = λ j p q t. ⊎_elim
          (λ h. let g : j ≡ lo = omega arith in absurd (refuted (ap P g ∙ e) t))
          (λ h. f.ahead j h (omega arith) t)
          (split j lo);
    })
    go false e (inr m) = inr (record {
      nought = m.nought;
      fails = λ j p q t. ⊎_elim
          (λ h. let g : j ≡ lo = omega arith in refuted (ap P g ∙ e) t)
          (λ h. m.fails j h (omega arith) t)
          (split j lo);
    })

last_is : (P : ℕ → Bool) (lo d : ℕ) → Picked largest P lo d (last P lo d)
last_is P lo zero = inr (record { nought = refl; fails = λ j p q. absurd (omega arith) })
last_is P lo (suc d) = go (P (lo + d)) refl (last_is P lo d)
  where
    go : (b : Bool) → P (lo + d) ≡ b → Picked largest P lo d (last P lo d) →
        Picked largest P lo (suc d) (elim b [ true ↦ lo + d | false ↦ last P lo d ])
    go true e rest = inl (record {
      from = omega arith;
      below = omega arith;
      passes = subst T (sym e) tt;
      ahead = λ j p q t. omega arith;
    })
    go false e (inl f) = inl (record {
      from = f.from;
      below = omega (arith, f.below);
      passes = f.passes;
      ahead = λ j p q t. ⊎_elim
          (λ h. let g : j ≡ lo + d = omega arith in absurd (refuted (ap P g ∙ e) t))
          (λ h. f.ahead j p h t)
          (split (lo + d) j);
    })
    go false e (inr m) = inr (record {
      nought = m.nought;
      fails = λ j p q t. ⊎_elim
          (λ h. let g : j ≡ lo + d = omega arith in refuted (ap P g ∙ e) t)
          (λ h. m.fails j p h t)
          (split (lo + d) j);
    })

pub pick_is : (tie : Tie) (P : ℕ → Bool) (lo d : ℕ) → Picked tie P lo d (pick tie P lo d)
pick_is smallest P lo d = first_is P lo d
pick_is largest P lo d = last_is P lo d

-- ---- only one index is picked
pub ahead_antisym : (tie : Tie) {j k : ℕ} → Ahead tie j k → Ahead tie k j → j ≡ k
ahead_antisym smallest p q = omega arith
ahead_antisym largest p q = omega arith

pub picked_unique : {tie : Tie} {P : ℕ → Bool} {lo d j k : ℕ} → Picked tie P lo d j → Picked tie P lo d k → j ≡ k
picked_unique {tie} {j = j} {k = k} (inl p) (inl q) =
    ahead_antisym tie (p.ahead k q.from q.below q.passes) (q.ahead j p.from p.below p.passes)
picked_unique {j = j} (inl p) (inr q) = absurd (q.fails j p.from p.below p.passes)
picked_unique {k = k} (inr p) (inl q) = absurd (p.fails k q.from q.below q.passes)
picked_unique (inr p) (inr q) = p.nought ∙ sym q.nought
