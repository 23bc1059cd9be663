-- What the two tests of "bridged" give of three breaks as curves. All laws are on plain numbers, so that a space or a hyphen changes only
-- the scales. Assumes nothing.
use Rattle.std.specs.Prelude.{ℕ, ◌+◌, ◌-◌, ◌*◌, ◌≤◌, ◌<◌, ◌≡◌}
use Rattle.std.proofs.Common.{ap, ⊎_elim, mul-le-mul_left, arith}
use Rattle.std.proofs.Math.Nat.{le_of_mul-le-mul_left}
use Rattle.laws.specs.Number.{split}
use Rattle.laws.specs.Square.{sqd, sqd_eq, sqd_shift, sqd_left}
use Rattle.laws.specs.Bridge.{curve, Edge, Chord, Bridged}
use Rattle.laws.proofs.Monotone.{monotone}

-- ---- the chord
-- three points of the parabola
parabola : (e p q y : ℕ) → q * sqd e y + p * sqd (e + p + q) y ≡ (p + q) * sqd (e + p) y + p * q * (p + q)
parabola e p q y =
    omega (
      arith,
      ap (λ (t : ℕ). q * t) (sqd_eq e y),
      ap (λ (t : ℕ). (p + q) * t) (sqd_eq (e + p) y),
      ap (λ (t : ℕ). p * t) (sqd_eq (e + p + q) y),
    )

chord_steps : (A gj e gk gl p q y : ℕ) →
    q * curve A gj e y + p * curve A gl (e + p + q) y + (p + q) * gk
    ≡ (p + q) * curve A gk (e + p) y + (q * gj + p * gl + A * (p * q * (p + q)))
chord_steps A gj e gk gl p q y = omega (arith, ap (λ (t : ℕ). A * t) (parabola e p q y))

-- Where the middle curve stands against the chord of the outer two is the same at every y.
pub chord_identity : (A gj ej gk ek gl el y : ℕ) → ej ≤ ek → ek ≤ el →
    (el - ek) * curve A gj ej y + (ek - ej) * curve A gl el y + (el - ej) * gk
    ≡ (el - ej) * curve A gk ek y + ((el - ek) * gj + (ek - ej) * gl + A * ((ek - ej) * (el - ek) * (el - ej)))
chord_identity A gj ej gk ek gl el y jk kl =
    let u : ej + (ek - ej) ≡ ek = omega arith in
    let v : ek + (el - ek) ≡ el = omega arith in
    let w : (ek - ej) + (el - ek) ≡ el - ej = omega arith in
    rw (u, v, w) at (chord_steps A gj ej gk gl (ek - ej) (el - ek) y)

-- One side of the first inequality by what is left of lmax after the line to l, as 01 has it.
pub edge_side : (lmax lopt A g e el : ℕ) → e ≤ el → el - e ≤ lmax → g + A * sqd (lmax - (el - e)) lopt ≡ curve A g (e + lmax) (el + lopt)
edge_side lmax lopt A g e el h k = ap (λ (t : ℕ). g + A * t) (sqd_left e el lmax lopt h k)

-- ---- what the tests give
-- a weighted mean lies between its ends
between : (p q a b c : ℕ) → 0 < q → q * a + p * c ≤ (p + q) * b → b ≤ c → a ≤ b
between p q a b c pos le bc = le_of_mul-le-mul_left {k = q} (omega (arith, mul-le-mul_left p bc)) pos

between_lt : (p q a b c : ℕ) → (p + q) * b < q * a + p * c → a ≤ b → b < c
between_lt p q a b c lt ab = ⊎_elim (λ h. absurd (omega (arith, mul-le-mul_left p h, mul-le-mul_left q ab))) (λ h. h) (split c b)

-- The chord test holds: where k is no worse than l, j is no worse than k.
pub chord_gives : (A gj ej gk ek gl el y : ℕ) → ej < ek → ek < el → Chord A gj ej gk ek gl el →
    curve A gk ek y ≤ curve A gl el y → curve A gj ej y ≤ curve A gk ek y
chord_gives A gj ej gk ek gl el y jk kl chord le =
    between (ek - ej) (el - ek) (curve A gj ej y) (curve A gk ek y) (curve A gl el y) (omega arith)
    (let w : (ek - ej) + (el - ek) ≡ el - ej = omega arith in
    rw w (low (chord_identity A gj ej gk ek gl el y (omega arith) (omega arith)) chord)) le
  where
    low : {a b c d : ℕ} → a + b ≡ c + d → d ≤ b → a ≤ c
    low p q = omega arith

-- The chord test fails: where j is no worse than k, k is better than l.
pub no_chord_gives : (A gj ej gk ek gl el y : ℕ) → ej < ek → ek < el → ¬ Chord A gj ej gk ek gl el →
    curve A gj ej y ≤ curve A gk ek y → curve A gk ek y < curve A gl el y
no_chord_gives A gj ej gk ek gl el y jk kl chord le =
    between_lt (ek - ej) (el - ek) (curve A gj ej y) (curve A gk ek y) (curve A gl el y)
    (let w : (ek - ej) + (el - ek) ≡ el - ej = omega arith in
    rw w (high (chord_identity A gj ej gk ek gl el y (omega arith) (omega arith)) chord)) le
  where
    high : {a b c d : ℕ} → a + b ≡ c + d → ¬ (d ≤ b) → c < a
    high p q = omega arith

at_shift : (A gj ej gk ek y m : ℕ) → curve A gj (ej + m) (y + m) ≤ curve A gk (ek + m) (y + m) → curve A gj ej y ≤ curve A gk ek y
at_shift A gj ej gk ek y m le = rw (sqd_shift ej y m, sqd_shift ek y m) at le

to_shift : (A gj ej gk ek y m : ℕ) → curve A gj ej y ≤ curve A gk ek y → curve A gj (ej + m) (y + m) ≤ curve A gk (ek + m) (y + m)
to_shift A gj ej gk ek y m le = rw (sqd_shift ej y m, sqd_shift ek y m) le

-- The edge test holds: where l has run over lmax, j is no worse than k.
pub edge_gives : (lmax lopt A gj ej gk ek el x : ℕ) → ej ≤ ek → x + lmax ≤ el → Edge lmax lopt A gj ej gk ek el →
    curve A gj ej (x + lopt) ≤ curve A gk ek (x + lopt)
edge_gives lmax lopt A gj ej gk ek el x jk over edge =
    at_shift A gj ej gk ek (x + lopt) lmax
    (monotone A gj (ej + lmax) gk (ek + lmax) (el + lopt) (x + lopt + lmax) (omega arith) (omega arith) edge)

-- The edge test fails: where l is live, j is worse than k.
pub no_edge_gives : (lmax lopt A gj ej gk ek el x : ℕ) → ej ≤ ek → el ≤ x + lmax → ¬ Edge lmax lopt A gj ej gk ek el →
    curve A gj ej (x + lopt) ≤ curve A gk ek (x + lopt) → ⊥
no_edge_gives lmax lopt A gj ej gk ek el x jk live edge le =
    edge
    (monotone A gj (ej + lmax) gk (ek + lmax) (x + lopt + lmax) (el + lopt) (omega arith) (omega arith)
    (to_shift A gj ej gk ek (x + lopt) lmax le))

-- Not bridged: while l is live, j no worse than k implies k better than l.
pub not_bridged_gives : (lmax lopt A gj ej gk ek gl el x : ℕ) → ej < ek → ek < el → el ≤ x + lmax →
    ¬ Bridged lmax lopt A gj ej gk ek gl el → curve A gj ej (x + lopt) ≤ curve A gk ek (x + lopt) → curve A gk ek (x + lopt)
    < curve A gl el (x + lopt)
not_bridged_gives lmax lopt A gj ej gk ek gl el x jk kl live not le =
    ⊎_elim
    (λ edge. no_chord_gives A gj ej gk ek gl el (x + lopt) jk kl (λ chord. not (record { edge = edge; chord = chord })) le)
    (λ edge. absurd (no_edge_gives lmax lopt A gj ej gk ek el x (omega arith) live (λ e. omega arith) le))
    (split (curve A gj (ej + lmax) (el + lopt)) (curve A gk (ek + lmax) (el + lopt)))

-- Bridged: where l is live and k no worse than l, or l has run over lmax, j is no worse than k.
pub bridged_gives : (lmax lopt A gj ej gk ek gl el x : ℕ) → ej < ek → ek < el → Bridged lmax lopt A gj ej gk ek gl el →
    (el ≤ x + lmax → curve A gk ek (x + lopt) ≤ curve A gl el (x + lopt)) → curve A gj ej (x + lopt) ≤ curve A gk ek (x + lopt)
bridged_gives lmax lopt A gj ej gk ek gl el x jk kl b no_better =
    ⊎_elim
    (λ live. chord_gives A gj ej gk ek gl el (x + lopt) jk kl b.chord (no_better live))
    (λ over. edge_gives lmax lopt A gj ej gk ek el x (omega arith) (omega arith) b.edge)
    (split el (x + lmax))
