-- Worked jobs, and the reader with all that it rests on open.
use Rattle.std.specs.Prelude.{ℕ, List, [], ◌∷◌}
use Rattle.laws.specs.Strip.{over}
use Rattle.job.specs.Reader.{ReadOutcome, numbers, section, counted, to_end, lengths_from, lengths_after}
use Rattle.job.specs.Reader.{announced, asked_by, limits_from, reading, reading_outcome, read_outcome}

-- numbers below 256 as a job has them
abbrev pub bytes : List ℕ → List ℕ
bytes [] = []
bytes (x ∷ xs) = x ∷ 0 ∷ 0 ∷ 0 ∷ bytes xs

-- "the numbers 4 1 6 6 1 4 3 2 2 5" and "2 2 7 4 3 4 2 5"
abbrev pub job_P1 : List ℕ
job_P1 = bytes (4 ∷ 1 ∷ 6 ∷ 6 ∷ 1 ∷ 4 ∷ 3 ∷ 2 ∷ 2 ∷ 5 ∷ [])

-- W-202: with a space of 1
abbrev pub job_space : List ℕ
job_space = bytes (5 ∷ 1 ∷ 5 ∷ 6 ∷ 1 ∷ 1 ∷ 4 ∷ 4 ∷ 3 ∷ 3 ∷ 6 ∷ [])

abbrev pub job_G1 : List ℕ
job_G1 = bytes (2 ∷ 2 ∷ 7 ∷ 4 ∷ 3 ∷ 4 ∷ 2 ∷ 5 ∷ [])

-- the reader, with all that it rests on open
unfoldable pub worked : List ℕ → List ℕ → ReadOutcome
unfolding read_outcome reading_outcome reading limits_from announced asked_by lengths_after
    lengths_from to_end counted section numbers over
worked = read_outcome
