-- What an entry of the best strip says: a cost. Assumes nothing.
use Rattle.std.specs.Prelude.{ℕ, ◌-◌, ◌^◌, ◌<◌, ◌≡◌, refl, eqb}
use Rattle.std.proofs.Common.{ap, sym, arith, ne_eqb}
use Rattle.laws.specs.Number.{if}
use Rattle.laws.specs.Cost.{Cost, none, some, value}
use Rattle.paper.specs.Strips.{best_entry}

-- "where there is no setting, best is 2^64 - 1"
unfoldable pub cost_of : ℕ → Cost
cost_of v = if (eqb v (2 ^ 64 - 1)) none (some v)

pub cost_number : (v : ℕ) → v < 2 ^ 64 - 1 → cost_of v ≡ some v
unfolding cost_of
cost_number v h = rw (ne_eqb v (2 ^ 64 - 1) (λ e. omega arith))

pub value_number : (v : ℕ) → v < 2 ^ 64 - 1 → value (cost_of v) ≡ v
value_number v h = rw (cost_number v h)

-- ---- what an entry says of the best that it was written for
pub entry_none : (c : Cost) (x : ℕ) → x ≡ best_entry c → ((v : ℕ) → c ≡ some v → v < 2 ^ 64 - 1) → x ≡ 2 ^ 64 - 1 → c ≡ none
unfolding best_entry
entry_none none x e fits h = refl
entry_none (some v) x e fits h = absurd (omega (arith, fits v refl))

pub entry_some : (c : Cost) (x : ℕ) → x ≡ best_entry c → (x ≡ 2 ^ 64 - 1 → ⊥) → c ≡ some x
unfolding best_entry
entry_some none x e h = absurd (h e)
entry_some (some v) x e h = ap some (sym e)

-- and back
pub entry_back : (c : Cost) → ((v : ℕ) → c ≡ some v → v < 2 ^ 64 - 1) → cost_of (best_entry c) ≡ c
unfolding best_entry cost_of
entry_back none fits = refl
entry_back (some v) fits = cost_number v (fits v refl)
