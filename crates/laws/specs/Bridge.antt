-- Breaks as curves, and the two tests of "bridged". A break has a cost g and an end e; a start has a beginning x, on a scale
-- of its own. The line from x to e costs the curve of the break at y = x + lopt. Three breaks j < k < l have their ends in
-- that order. All is on plain numbers, so that a space or a hyphen changes only the scales.
use Rattle.std.specs.Prelude.{ℕ, ◌+◌, ◌-◌, ◌*◌, ◌≤◌}
use Rattle.laws.specs.Square.{sqd}

abbrev pub curve : ℕ → ℕ → ℕ → ℕ → ℕ
curve A g e y = g + A * sqd e y

-- ---- the two tests
-- the first inequality, at the last start at which l is live; both scales are moved by lmax, so that there is no difference
abbrev pub Edge : (lmax lopt A gj ej gk ek el : ℕ) → Type 0
Edge lmax lopt A gj ej gk ek el = curve A gj (ej + lmax) (el + lopt) ≤ curve A gk (ek + lmax) (el + lopt)

-- the second inequality: the curve of k lies on or above the chord
abbrev pub Chord : (A gj ej gk ek gl el : ℕ) → Type 0
Chord A gj ej gk ek gl el = (el - ek) * gj + (ek - ej) * gl + A * ((ek - ej) * (el - ek) * (el - ej)) ≤ (el - ej) * gk

-- ---- bridged: both
pub record Bridged (lmax lopt A gj ej gk ek gl el : ℕ) : Type 0 where
  pub edge : Edge lmax lopt A gj ej gk ek el
  pub chord : Chord A gj ej gk ek gl el
