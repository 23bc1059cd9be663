-- Natural numbers: to decide an order, to be rid of a difference, and a choice by a test. Assumes nothing.
use Rattle.std.specs.Prelude.{ℕ, ◌+◌, ◌-◌, ◌≤◌, ◌<◌, ◌≡◌, refl, ◌⊎◌, Bool, true, false, ◌&&◌, List, [], ◌∷◌, T}
use Rattle.std.proofs.Common.{subst, inl, inr, arith}
use Rattle.std.proofs.Math.Decide.{dec_le}

pub split : (a b : ℕ) → (a ≤ b) ⊎ (b < a)
split a b = go (dec_le a b)
  where
    go : Dec (a ≤ b) → (a ≤ b) ⊎ (b < a)
    go (yes h) = inl h
    go (no h) = inr (omega arith)

-- What holds of a + d for every d holds of each b ≥ a.
pub up : (P : ℕ → Type 0) (a b : ℕ) → a ≤ b → ((d : ℕ) → P (a + d)) → P b
up P a b h k =
    let e : a + (b - a) ≡ b = omega arith in
    subst P e (k (b - a))

-- the first of two where the test holds, else the second
abbrev pub if : {A : Type 0} → Bool → A → A → A
if true x y = x
if false x y = y

-- two tests, and a test of each entry of a list
pub both : (a b : Bool) → T (a && b) → T a × T b
both true b t = (tt, t)
both false b t = absurd t

abbrev pub all : {A : Type 0} → (A → Bool) → List A → Bool
all P [] = true
all P (x ∷ xs) = P x && all P xs

-- A test held or failed, with the equation that says which.
pub tested : (b : Bool) → (b ≡ true) ⊎ (b ≡ false)
tested true = inl refl
tested false = inr refl

pub is_true : (b : Bool) → T b → b ≡ true
is_true true t = refl
is_true false t = absurd t

pub true_not_false : true ≡ false → ⊥
true_not_false e = let z : ◌≡◌ {A = ℕ} 0 1 = cc in omega arith

-- what a choice comes to where its test is known
pub when_true : {A : Type 0} (b : Bool) (x y : A) → b ≡ true → elim b [ true ↦ x | false ↦ y ] ≡ x
when_true true x y e = refl
when_true false x y e = let z : ◌≡◌ {A = ℕ} 0 1 = cc in absurd (omega arith)

pub when_false : {A : Type 0} (b : Bool) (x y : A) → b ≡ false → elim b [ true ↦ x | false ↦ y ] ≡ y
when_false true x y e = let z : ◌≡◌ {A = ℕ} 0 1 = cc in absurd (omega arith)
when_false false x y e = refl
