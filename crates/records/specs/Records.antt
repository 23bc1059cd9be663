-- The records of a file, taken off its front one after the other. Assumes nothing.
use Rattle.std.specs.Prelude.{ℕ, ◌≤◌, ◌<◌, ◌≡◌, List, length, take, drop, Option, MatchOption}
use Rattle.std.specs.Borrow.{Bor}
use Rattle.std.specs.Int.{w16, from_le_bytes}

-- the number of the first 2 bytes, low byte first
abbrev pub short : List ℕ → ℕ
short bytes = from_le_bytes w16 (take 2 bytes)

-- Of some bytes the first number and those after it are told, or nothing, where there are fewer than 2.
abbrev pub SplitsShort : List ℕ → Option (ℕ × Bor (List ℕ)) → Type 0
SplitsShort bytes r =
    MatchOption r (length bytes < 2) (λ p. (2 ≤ length bytes) × (p.0 ≡ short bytes) × (p.1.now ≡ drop 2 bytes))

-- The first record of a file is told, as many bytes as its number says or as there are, and the file is left without it. Or nothing is
-- told, where there is no number, and the file stays as it is.
abbrev pub TakesFirst : List ℕ → Option (Bor (List ℕ)) → List ℕ → Type 0
TakesFirst file r left =
    MatchOption r
    ((length file < 2) × (left ≡ file))
    (λ p. (2 ≤ length file) × (p.now ≡ take (short file) (drop 2 file)) × (left ≡ drop (short file) (drop 2 file)))
