-- The turns of the numbers that end a row, and a row. Assumes nothing but what each law states.
use Prim.Native.Nat.{ℕ, ◌+◌, ◌<◌}
use mathlib.Core.Path.{◌≡◌, refl}
use mathlib.Core.List.{List, [], ◌∷◌, ◌++◌}
use native.Mathlib.Omega.{arith}
use lib.ListN.{length, get_or, drop}
use Rattle.rows.specs.Rows.{space, digits, row_rest, row}
use Rattle.rows.specs.Size.{row_size}
use Rattle.rows.specs.Puts.{Fits, Puts, puts_then, Along, along_fits, along_more}

-- ---- the numbers that end a row: a turn, in which a space and a number are put
module _ {xs : List ℕ} {k at : ℕ} {s : List ℕ} {next : ℕ} {t : List ℕ} (a : Along row_rest xs k at s next t) (more : k < length xs) where
  spaced : row_rest (get_or xs k 0 ∷ drop (k + 1) xs) ≡ (space ∷ digits (get_or xs k 0)) ++ row_rest (drop (k + 1) xs)
  unfolding row_rest
  spaced = refl

  pub turn_fits : Fits at (row_rest xs ∷ []) → Fits next ((space ∷ []) ∷ digits (get_or xs k 0) ∷ [])
  turn_fits f = omega (arith, along_fits a more {piece = space ∷ digits (get_or xs k 0)} spaced f)

  pub turn_more : {after end : ℕ} {m u : List ℕ} → Puts (space ∷ []) next t after m → Puts (digits (get_or xs k 0)) after m end u →
      Along row_rest xs (k + 1) at s end u
  turn_more p q = along_more a more spaced (puts_then p q)

-- ---- a row
module _ (first xs : List ℕ) {at : ℕ} where
  pub row_fits : Fits at (row first xs ∷ []) → Fits at (first ∷ row_rest xs ∷ [])
  row_fits f = omega (arith, row_size first xs)

  pub row_put : {s t u : List ℕ} {next end : ℕ} → Puts first at s next t → Puts (row_rest xs) next t end u → Puts (row first xs) at s end u
  unfolding row
  row_put p q = puts_then p q
