-- The law of two breaks as curves, on plain numbers. Assumes nothing.
use Rattle.std.specs.Prelude.{ℕ, ◌*◌, ◌≤◌}
use Rattle.std.proofs.Common.{ap, mul-le-mul_left, arith}
use Rattle.laws.specs.Square.{sqd_eq, rearrange}
use Rattle.laws.specs.Bridge.{curve}

-- Going back, the nearer break only gains.
pub monotone : (A gj ej gk ek y z : ℕ) → ej ≤ ek → z ≤ y → curve A gj ej y ≤ curve A gk ek y → curve A gj ej z ≤ curve A gk ek z
monotone A gj ej gk ek y z ends back le =
    omega (
      arith,
      ap (λ (t : ℕ). A * t) (sqd_eq ej y),
      ap (λ (t : ℕ). A * t) (sqd_eq ek y),
      ap (λ (t : ℕ). A * t) (sqd_eq ej z),
      ap (λ (t : ℕ). A * t) (sqd_eq ek z),
      mul-le-mul_left A (rearrange ej ek y z ends back),
    )
