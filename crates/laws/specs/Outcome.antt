-- What a call gives, and what it is to promise it. Assumes nothing.
use Rattle.std.specs.Prelude.{◌≡◌}
use Rattle.std.proofs.Common.{ap, sym, ◌∙◌}

-- the answer, and the strips at exit: a function of the inputs and the strips at entry
pub record Outcome (A S : Type 0) : Type 0 where
  pub answer : A
  pub strips : S

-- A promise: what is returned tells the outcome's answer, and the strips at exit are the outcome's.
pub record Promise {A R S : Type 0} (Tells : A → R → Type 0) (o : Outcome A S) (r : R) (exit : S) : Type 0 where
  pub tells : Tells o.answer r
  pub strips : exit ≡ o.strips

-- An answer is told by one value only.
abbrev pub Single : {A R : Type 0} → (A → R → Type 0) → Type 0
Single {A} {R} Tells = (a : A) (r q : R) → Tells a r → Tells a q → r ≡ q

-- Any two outcomes that satisfy a promise agree.
pub agree : {A R S : Type 0} {Tells : A → R → Type 0} {o : Outcome A S} {r q : R} {s t : S} → Single Tells →
    Promise Tells o r s → Promise Tells o q t → (r ≡ q) × (s ≡ t)
agree {o = o} {r = r} {q = q} single p u = (single o.answer r q p.tells u.tells, p.strips ∙ sym u.strips)

-- the answer itself is returned
abbrev pub Is : {A : Type 0} → A → A → Type 0
Is a r = r ≡ a

pub is_single : {A : Type 0} → Single (Is {A = A})
is_single a r q e f = e ∙ sym f

-- f of the answer is returned
abbrev pub As : {A R : Type 0} → (A → R) → A → R → Type 0
As f a r = r ≡ f a

pub as_single : {A R : Type 0} (f : A → R) → Single (As f)
as_single f a r q e u = e ∙ sym u

-- the answer itself is returned, and so what it tells
pub record Answers {A T : Type 0} (told : A → T) (a r : A) : Type 0 where
  pub is : r ≡ a
  pub tells : told r ≡ told a

pub answers : {A T : Type 0} {told : A → T} {a r : A} → r ≡ a → Answers told a r
answers {told = told} e = record { is = e; tells = ap told e }

pub answers_single : {A T : Type 0} {told : A → T} → Single (Answers told)
answers_single a r q p u = p.is ∙ sym u.is
