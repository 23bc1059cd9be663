-- How many bytes a row has. Assumes nothing.
use Rattle.std.specs.Prelude.{ℕ, ◌+◌, ◌≡◌, refl, List, [], ◌∷◌, length}
use Rattle.std.proofs.Common.{arith, length-append}
use Rattle.rows.specs.Rows.{digits, row_rest, row}

pub rest_none : length (row_rest []) ≡ 1
unfolding row_rest
rest_none = refl

pub rest_one : (x : ℕ) (xs : List ℕ) → length (row_rest (x ∷ xs)) ≡ 1 + length (digits x) + length (row_rest xs)
unfolding row_rest
rest_one x xs = omega (arith, length-append (digits x) (row_rest xs))

pub row_size : (first xs : List ℕ) → length (row first xs) ≡ length first + length (row_rest xs)
unfolding row
row_size first xs = length-append first (row_rest xs)

-- a row of one number, or two, after what stands first
pub row_one : (first : List ℕ) (x : ℕ) → length (row first (x ∷ [])) ≡ length first + length (digits x) + 2
row_one first x = omega (arith, row_size first (x ∷ []), rest_one x [], rest_none)

pub row_two : (first : List ℕ) (x y : ℕ) → length (row first (x ∷ y ∷ [])) ≡ length first + length (digits x) + length (digits y) + 3
row_two first x y = omega (arith, row_size first (x ∷ y ∷ []), rest_one x (y ∷ []), rest_one y [], rest_none)
