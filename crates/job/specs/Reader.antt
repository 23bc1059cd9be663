-- 01, "Job file and listing": what a job is read as, from its bytes and the lengths strip alone. Assumes nothing.
use Rattle.std.specs.Prelude.{ℕ, zero, suc, ◌+◌, ◌*◌, ◌^◌, Bool, true, false, ◌||◌, List, [], ◌∷◌, ltb, eqb, length, get_or, drop}
use Rattle.std.specs.Prelude.{Result, Ok, Err}
use Rattle.laws.specs.Number.{if}
use Rattle.laws.specs.Strip.{over}
use Rattle.laws.specs.Outcome.{Outcome}
use Rattle.paper.specs.declared.Refusal.{Refusal}
use Rattle.paper.specs.declared.Refusal.TheVariants.{Many, Room, Job as Malformed}
use Rattle.paper.specs.Allowed.{spaced_limits, page_limits_of, most_words}
use Rattle.job.specs.declared.Asked.{Asked}
use Rattle.job.specs.declared.Asked.TheVariants.{Paragraph, Index}
use Rattle.job.specs.declared.JobLimits.{JobLimits}
use Rattle.job.specs.declared.Job.{Job}

-- what a read comes to: a refusal, or the limits with the lengths
pub data Reading : Type 0 where
  refuse : Refusal → Reading
  accept : JobLimits → List ℕ → Reading

-- ---- numbers
-- "Numbers are 32-bit, low byte first." This is the one whose first byte is byte k of a part of the job.
abbrev pub number : List ℕ → ℕ → ℕ
number part k = get_or part k 0 + 2 ^ 8 * get_or part (k + 1) 0 + 2 ^ 16 * get_or part (k + 2) 0 + 2 ^ 24 * get_or part (k + 3) 0

-- n numbers from the front of a part that begins at the byte `at`, and what is made of them: "Read in file order: an incomplete
-- number is JOB at its first byte"
unfoldable pub numbers : ℕ → List ℕ → ℕ → (List ℕ → Reading) → Reading
numbers at part zero made = made []
numbers at part (suc n) made =
    elim (ltb (length part) 4) [
      | true ↦ refuse (Malformed at)
      | false ↦ numbers (at + 4) (drop 4 part) n (λ xs. made (number part 0 ∷ xs))
    ]

-- ---- sections
-- "Each section is read from the part of the job after its count." Here it begins at the byte `at`.
unfoldable pub section : List ℕ → ℕ → ℕ → (List ℕ → Reading) → Reading
section job at n made = numbers at (drop at job) n made

-- the count at the byte `at`
unfoldable pub counted : List ℕ → ℕ → (ℕ → Reading) → Reading
counted job at made = section job at 1 (λ xs. made (get_or xs 0 0))

-- "bytes left over are JOB at the first of them"
unfoldable pub to_end : List ℕ → ℕ → Reading → Reading
to_end job at made = if (ltb at (length job)) (refuse (Malformed at)) made

-- n lengths from the byte `at` on: "n > 4,096 is MANY; a lengths strip shorter than n is ROOM 1"
unfoldable pub lengths_from : List ℕ → ℕ → JobLimits → ℕ → ℕ → Reading
lengths_from job room limits at n =
    if (ltb most_words n) (refuse Many)
    (if (ltb room n) (refuse (Room 1))
    (section job at n (λ ws. to_end job (at + 4 * n) (accept limits ws))))

-- the lengths, whose count stands at the byte `at`
unfoldable pub lengths_after : List ℕ → ℕ → ℕ → JobLimits → Reading
lengths_after job room at limits = counted job at (lengths_from job room limits (at + 4))

-- "limits (count 4: lmin, lopt, lmax, A; or count 2: lmin, lmax, meaning an index)"; W-202: "a job's first count may be 5, the space last"
unfoldable pub announced : ℕ → Bool
announced count = eqb count 5 || (eqb count 4 || eqb count 2)

-- A limit that is not among them is 0: "Count 4 means space 0." W-205: no count carries an edition, and so these are of edition 1.
unfoldable pub asked_by : ℕ → List ℕ → Asked
asked_by count l =
    if (eqb count 2)
    (Index (page_limits_of (get_or l 0 0) (get_or l 1 0)))
    (Paragraph (spaced_limits (get_or l 0 0) (get_or l 1 0) (get_or l 2 0) (get_or l 3 0) (get_or l 4 0)))

abbrev pub limits_by : ℕ → List ℕ → JobLimits
limits_by count l = record { count = count; asked = asked_by count l }

-- "Sections stand in a fixed order, each after its count: limits [..], then lengths." "a first count that is neither 4 nor 2", nor 5,
-- "is JOB at 0"
unfoldable pub limits_from : List ℕ → ℕ → ℕ → Reading
limits_from job room count =
    if (announced count)
    (section job 4 count (λ l. lengths_after job room (4 + 4 * count) (limits_by count l)))
    (refuse (Malformed 0))

-- the whole job, for a lengths strip that has room for so many
unfoldable pub reading : List ℕ → ℕ → Reading
reading job room = counted job 0 (limits_from job room)

-- ---- the outcome: the answer, and the lengths strip at exit
abbrev pub JobAnswer : Type 0
JobAnswer = Result Job Refusal

abbrev pub read_as : JobLimits → ℕ → JobAnswer
read_as limits n = Ok (record { limits = limits; n = n })

abbrev pub ReadOutcome : Type 0
ReadOutcome = Outcome JobAnswer (List ℕ)

-- "A refused read leaves the lengths strip unchanged [..]. An accepted read writes the n lengths and no entry past them."
unfoldable pub reading_outcome : Reading → List ℕ → ReadOutcome
reading_outcome (refuse r) s = record { answer = Err r; strips = s }
reading_outcome (accept limits ws) s = record { answer = read_as limits (length ws); strips = over ws s }

unfoldable pub read_outcome : List ℕ → List ℕ → ReadOutcome
read_outcome job s = reading_outcome (reading job (length s)) s
