-- 01, "Job file and listing": a row of a listing, as bytes. Assumes nothing.
use Rattle.std.specs.Prelude.{ℕ, zero, suc, ◌+◌, ◌/◌, ◌%◌, ◌≡◌, refl, true, false, List, [], ◌∷◌, ◌++◌, map, ltb}
use Prim.Native.Char.{code}
use Prim.Native.String.{String}

-- a text of one byte a character
abbrev pub ascii : String → List ℕ
ascii String.[] = []
ascii (String.◌∷◌ c s) = code c ∷ ascii s

abbrev pub space : ℕ
space = 32

abbrev pub feed : ℕ
feed = 10

-- the digit of a number below ten
abbrev pub digit : ℕ → ℕ
digit x = 48 + x

-- a number in decimal, at most d digits of it
unfoldable pub digits_in : ℕ → ℕ → List ℕ
digits_in zero x = []
digits_in (suc d) x = elim (ltb x 10) [ true ↦ digit x ∷ [] | false ↦ digits_in d (x / 10) ++ (digit (x % 10) ∷ []) ]

-- A number has no more digits than units, but for 0, which has one.
unfoldable pub digits : ℕ → List ℕ
digits x = digits_in (x + 1) x

-- numbers, each after a space, and the end of the row: "Every line ends in a line feed."
unfoldable pub row_rest : List ℕ → List ℕ
row_rest [] = feed ∷ []
row_rest (x ∷ xs) = space ∷ (digits x ++ row_rest xs)

-- a row: a word or a number, and then numbers
unfoldable pub row : List ℕ → List ℕ → List ℕ
row first xs = first ++ row_rest xs

-- ---- worked rows
worked_digits : map digits (0 ∷ 7 ∷ 10 ∷ 4096 ∷ 18446744073709551615 ∷ [])
    ≡ map ascii ("0" ∷ "7" ∷ "10" ∷ "4096" ∷ "18446744073709551615" ∷ [])
unfolding digits digits_in
worked_digits = refl

worked_rows : row (ascii "refused") (6 ∷ 0 ∷ []) ++ row (digits 12) (3 ∷ 90 ∷ []) ≡ ascii "refused 6 0\n12 3 90\n"
unfolding row row_rest digits digits_in
worked_rows = refl
