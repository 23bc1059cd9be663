-- What it means that refusals 1 to 5 do not apply. Assumes nothing but what each law states.
use Rattle.std.specs.Prelude.{ℕ, suc, ◌≤◌, ◌≡◌, refl, Bool, true, false, ◌&&◌, List, [], ◌∷◌, T, leb}
use Rattle.std.proofs.Common.{arith, leb-true}
use Rattle.std.proofs.lemmas.Bool.{not-false}
use Rattle.laws.specs.Number.{all}
use Rattle.std.specs.Prelude.{Ok}
use Rattle.paper.specs.Allowed.{length_holds, Passed}
use Rattle.paper.specs.Told.{first_failing, first_short, itself, setter_checks, checked}
use Rattle.refusals.specs.Checks.{none_found, refused_other}

-- ---- no entry fails
pub none_fails : {A : Type 0} (ok : A → Bool) (k : ℕ) (xs : List A) → 1 ≤ k → first_failing ok k xs ≡ 0 → T (all ok xs)
unfolding first_failing
none_fails ok k [] h e = tt
none_fails ok k (x ∷ xs) h e = go (ok x) e (none_fails ok (suc k) xs (omega arith))
  where
    go : (b : Bool) → ◌≡◌ {A = ℕ} (elim b [ true ↦ first_failing ok (suc k) xs | false ↦ k ]) 0 →
        (first_failing ok (suc k) xs ≡ 0 → T (all ok xs)) → T (b && all ok xs)
    go true f rest = rest f
    go false f rest = absurd (omega arith)

-- ---- no strip is short: each has what it needs
abbrev pub Roomy : List ℕ → List ℕ → Type 0
Roomy [] ns = Unit {0}
Roomy (h ∷ hs) [] = Unit {0}
Roomy (h ∷ hs) (n ∷ ns) = (n ≤ h) × Roomy hs ns

pub none_short : (k : ℕ) (has needs : List ℕ) → 1 ≤ k → first_short k has needs ≡ 0 → Roomy has needs
unfolding first_short
none_short k [] ns h e = tt
none_short k (has ∷ hs) [] h e = tt
none_short k (has ∷ hs) (needs ∷ ns) h e = go (leb needs has) refl e (none_short (suc k) hs ns (omega arith))
  where
    go : (b : Bool) → leb needs has ≡ b → ◌≡◌ {A = ℕ} (elim b [ true ↦ first_short (suc k) hs ns | false ↦ k ]) 0 →
        (first_short (suc k) hs ns ≡ 0 → Roomy hs ns) → (needs ≤ has) × Roomy hs ns
    go true t f rest = (leb-true needs has t, rest f)
    go false t f rest = absurd (omega arith)

-- ---- all five checks pass
pub record PassedChecks (hold : Bool) (space : ℕ) (ws has needs : List ℕ) : Type 0 where
  pub passed : Passed hold space ws
  pub room : Roomy has needs

pub accepted : (hold : Bool) (space : ℕ) (ws has needs : List ℕ) → checked hold space ws has needs ≡ Ok tt →
    PassedChecks hold space ws has needs
unfolding checked
accepted hold space ws has needs e =
    let none = none_found itself refused_other (setter_checks hold space ws has needs) e in
    record {
      passed = record {
        limits = rw (not-false hold none.limits.0) tt;
        words = none.words;
        few = none.few;
        lengths = none_fails (length_holds space) 1 ws (omega arith) none.lengths;
      };
      room = none_short 1 has needs (omega arith) none.room;
    }
