-- The first check that applies, over the checks of any part. Assumes nothing but what each law states.
use Rattle.std.specs.Prelude.{ℕ, ◌≤◌, ◌≡◌, refl, Bool, true, false, List, [], ◌∷◌, ◌++◌, map}
use Rattle.std.proofs.Common.{ap, arith, eqb-true, ltb-false}
use Rattle.std.proofs.lemmas.Bool.{eqb-false, not-false}
use Rattle.laws.specs.Number.{if}
use Rattle.paper.specs.declared.Refusal.{Refusal}
use Rattle.paper.specs.Told.{Checked}
use Rattle.std.specs.Prelude.{Ok, Err}
use Rattle.paper.specs.Told.{first_short, Check, EMPTY, MANY, LENGTH, ROOM, Checks, in_order, first_given, unless, itself, given}

-- ---- what is accepted, where to refuse is another thing than to accept
abbrev pub NoneApplies : {R : Type 0} → List (Check R) → Type 0
NoneApplies [] = Unit {0}
NoneApplies (c ∷ cs) = (c.applies ≡ false) × NoneApplies cs

pub none_applies : {R A : Type 0} {refuse : R → A} {accept : A} → ((r : R) → refuse r ≡ accept → ⊥) → (cs : List (Check R)) →
    first_given refuse accept cs ≡ accept → NoneApplies cs
none_applies other [] e = tt
none_applies {refuse = refuse} {accept = accept} other (c ∷ cs) e = go c.applies e (none_applies other cs)
  where
    go : (b : Bool) → if b (refuse c.refusal) (first_given refuse accept cs) ≡ accept →
        (first_given refuse accept cs ≡ accept → NoneApplies cs) → (b ≡ false) × NoneApplies cs
    go true f later = absurd (other c.refusal f)
    go false f later = (refl, later f)

none_both : {R : Type 0} (cs ds : List (Check R)) → NoneApplies (cs ++ ds) → NoneApplies cs × NoneApplies ds
none_both [] ds n = (tt, n)
none_both (c ∷ cs) ds n = let later = none_both cs ds n.1 in ((n.0, later.0), later.1)

pub record NoneFound {R : Type 0} (c : Checks R) : Type 0 where
  pub words : 1 ≤ c.n
  pub few : c.n ≤ c.most
  pub limits : NoneApplies c.limits
  pub lengths : c.word ≡ 0
  pub own : NoneApplies c.own
  pub room : first_short 1 c.has c.needs ≡ 0

pub none_found : {R A : Type 0} (plain : Refusal → R) {refuse : R → A} {accept : A} → ((r : R) → refuse r ≡ accept → ⊥) → (c : Checks R) →
    first_given refuse accept (in_order plain c) ≡ accept → NoneFound c
none_found plain other c e =
    let all = none_applies other (in_order plain c) e in
    let upper = none_both (c.limits ++ LENGTH plain c.word ∷ c.own) (ROOM plain (first_short 1 c.has c.needs) ∷ []) all.1.1 in
    let lower = none_both c.limits (LENGTH plain c.word ∷ c.own) upper.0 in
    record {
      words = omega (arith, eqb-false c.n 0 all.0);
      few = ltb-false c.most c.n all.1.0;
      limits = lower.0;
      lengths = eqb-true c.word 0 (not-false _ lower.1.0);
      own = lower.1.1;
      room = eqb-true (first_short 1 c.has c.needs) 0 (not-false _ upper.1.0);
    }

pub refused_other : (r : Refusal) → ◌≡◌ {A = Checked} (Err r) (Ok tt) → ⊥
refused_other r e = let z : ◌≡◌ {A = ℕ} 0 1 = cc in omega arith

-- ---- the checks in turn, as code finds them
abbrev pub words_found : ℕ → ℕ → Checked
words_found most n = given (EMPTY itself n ∷ MANY itself most n ∷ [])

abbrev pub lengths_found : ℕ → Checked
lengths_found word = given (LENGTH itself word ∷ [])

abbrev pub room_found : List ℕ → List ℕ → Checked
room_found has needs = given (ROOM itself (first_short 1 has needs) ∷ [])

-- what entries some strips have, in their order, and what they need
abbrev pub has_of : List (ℕ × ℕ) → List ℕ
has_of = map (λ (s : ℕ × ℕ). s.0)

abbrev pub needs_of : List (ℕ × ℕ) → List ℕ
needs_of = map (λ (s : ℕ × ℕ). s.1)

module _ {R A : Type 0} (plain : Refusal → R) (refuse : R → A) where
  abbrev pub unless_plain : Checked → A → A
  unless_plain = unless (λ r. refuse (plain r))

  pub then_others : (cs ds : List (Check R)) (accept : A) →
      first_given refuse accept (cs ++ ds) ≡ first_given refuse (first_given refuse accept ds) cs
  then_others [] ds accept = refl
  then_others (c ∷ cs) ds accept = ap (if c.applies (refuse c.refusal)) (then_others cs ds accept)

  found : (b : Bool) (r : Refusal) (c : Checked) (later : A) →
      unless_plain (if b (Err r) c) later ≡ if b (refuse (plain r)) (unless_plain c later)
  found true r c later = refl
  found false r c later = refl

  pub in_turn : (c : Checks R) (accept : A) → first_given refuse accept (in_order plain c)
      ≡ unless_plain (words_found c.most c.n) (first_given refuse (unless_plain (lengths_found c.word)
      (first_given refuse (unless_plain (room_found c.has c.needs) accept) c.own)) c.limits)
  in_turn c accept = simp (then_others, found)
