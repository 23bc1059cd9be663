-- A cost: a number, or "no setting", which is above every number and equal to itself; and the least cost over a set.
-- Assumes nothing.
use Rattle.std.specs.Prelude.{ℕ, min, ◌≤◌, ◌≡◌, refl, ◌⊎◌, Bool, true, false, T, leb}
use Rattle.std.proofs.Common.{ap, sym, subst, inl, inr, ⊎_elim, le_refl, le_trans, le_antisymm, arith, leb→le, le→leb}
use Rattle.laws.specs.Number.{split}

pub data Cost : Type 0 where
  none : Cost
  some : ℕ → Cost

-- ---- the order
infix 4 ◌≼◌
abbrev pub ◌≼◌ : Cost → Cost → Type 0
◌≼◌ a none = Unit {0}
◌≼◌ none (some n) = ⊥
◌≼◌ (some m) (some n) = m ≤ n

-- the same as a test
abbrev pub leq : Cost → Cost → Bool
leq a none = true
leq none (some n) = false
leq (some m) (some n) = leb m n

pub leq→≼ : (a b : Cost) → T (leq a b) → a ≼ b
leq→≼ a none t = tt
leq→≼ none (some n) t = t
leq→≼ (some m) (some n) t = leb→le m n t

pub ≼→leq : (a b : Cost) → a ≼ b → T (leq a b)
≼→leq a none h = tt
≼→leq none (some n) h = h
≼→leq (some m) (some n) h = le→leb m n h

pub ≼_refl : (a : Cost) → a ≼ a
≼_refl none = tt
≼_refl (some m) = le_refl m

pub ≼_trans : (a b c : Cost) → a ≼ b → b ≼ c → a ≼ c
≼_trans a b none p q = tt
≼_trans a none (some n) p q = absurd q
≼_trans none (some m) (some n) p q = absurd p
≼_trans (some l) (some m) (some n) p q = le_trans p q

pub ≼_antisym : (a b : Cost) → a ≼ b → b ≼ a → a ≡ b
≼_antisym none none p q = refl
≼_antisym none (some n) p q = absurd p
≼_antisym (some m) none p q = absurd q
≼_antisym (some m) (some n) p q = ap some (le_antisymm p q)

pub ≼_total : (a b : Cost) → (a ≼ b) ⊎ (b ≼ a)
≼_total a none = inl tt
≼_total none (some n) = inr tt
≼_total (some m) (some n) = ⊎_elim (λ h. inl h) (λ h. inr (omega arith)) (split m n)

-- ---- a number or none
abbrev pub Has : Cost → Type 0
Has none = ⊥
Has (some n) = Unit {0}

-- the same as a test
abbrev pub has_cost : Cost → Bool
has_cost none = false
has_cost (some n) = true

-- the number of a cost that has one
abbrev pub value : Cost → ℕ
value none = 0
value (some n) = n

pub some_inj : {m n : ℕ} → some m ≡ some n → m ≡ n
some_inj p = cc

pub some_not_none : {n : ℕ} → some n ≡ none → ⊥
some_not_none p = let z : ◌≡◌ {A = ℕ} 0 1 = cc in omega arith

pub has_value : (a : Cost) → Has a → a ≡ some (value a)
has_value none h = absurd h
has_value (some n) h = refl

pub has_some : {a : Cost} {n : ℕ} → a ≡ some n → Has a
has_some e = subst Has (sym e) tt

-- a line's cost joined to the cost of the rest
abbrev pub before : (ℕ → ℕ → ℕ) → ℕ → Cost → Cost
before f c none = none
before f c (some n) = some (f c n)

pub before_mono : (f : ℕ → ℕ → ℕ) → ((c m n : ℕ) → m ≤ n → f c m ≤ f c n) → (c : ℕ) (a b : Cost) → a ≼ b → before f c a ≼ before f c b
before_mono f mono c a none h = tt
before_mono f mono c none (some n) h = absurd h
before_mono f mono c (some m) (some n) h = mono c m n h

pub before_has : (f : ℕ → ℕ → ℕ) (c : ℕ) (a : Cost) → Has (before f c a) → Has a
before_has f c none h = h
before_has f c (some n) h = tt

-- ---- the least cost over a set
module _ {S : Type 0} (P : S → Type 0) (v : S → Cost) where
  -- none, or the cost of a member
  abbrev pub Attained : Cost → Type 0
  Attained none = Unit {0}
  Attained (some t) = (s : S) × P s × (v s ≡ some t)

  -- the least cost of the members of P; none where no member has a number
  pub record Least (c : Cost) : Type 0 where
    pub low : (s : S) → P s → c ≼ v s
    pub reached : Attained c

  pub least_unique : (c d : Cost) → Least c → Least d → c ≡ d
  least_unique c d p q = ≼_antisym c d (below c d p q) (below d c q p)
    where
      below : (c d : Cost) → Least c → Least d → c ≼ d
      below c none p q = tt
      below c (some t) p q = subst (λ (z : Cost). c ≼ z) q.reached.2 (p.low q.reached.0 q.reached.1)

-- A larger set has no larger least.
pub least_wider : {S : Type 0} (P Q : S → Type 0) (v : S → Cost) → ((s : S) → P s → Q s) → (c d : Cost) →
    Least P v c → Least Q v d → d ≼ c
least_wider P Q v f none d p q = tt
least_wider P Q v f (some t) d p q = subst (λ (z : Cost). d ≼ z) p.reached.2
    (q.low p.reached.0 (f p.reached.0 p.reached.1))

pub reached_map : {S : Type 0} (P Q : S → Type 0) (v : S → Cost) → ((s : S) → P s → Q s) → (c : Cost) → Attained P v c → Attained Q v c
reached_map P Q v f none r = tt
reached_map P Q v f (some t) r = (r.0, f r.0 r.1, r.2)

-- ---- the lesser of two costs
abbrev pub lower : Cost → Cost → Cost
lower a none = a
lower none (some n) = some n
lower (some m) (some n) = some (min m n)

pub lower_left : (a b : Cost) → lower a b ≼ a
lower_left a none = ≼_refl a
lower_left none (some n) = tt
lower_left (some m) (some n) = omega arith

pub lower_right : (a b : Cost) → lower a b ≼ b
lower_right a none = tt
lower_right none (some n) = le_refl n
lower_right (some m) (some n) = omega arith

pub lower_cases : (a b : Cost) → (lower a b ≡ a) ⊎ (lower a b ≡ b)
lower_cases a none = inl refl
lower_cases none (some n) = inr refl
lower_cases (some m) (some n) =
    ⊎_elim (λ h. inl (ap some (omega arith))) (λ h. inr (ap some (omega arith))) (split m n)
