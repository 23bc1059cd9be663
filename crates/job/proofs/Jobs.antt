-- What the worked jobs are read as, computed from the definitions; and what a count of 4 means, of any limits. Assumes nothing.
use Rattle.std.specs.Prelude.{ℕ, ◌≡◌, refl, List, [], ◌∷◌, ◌++◌, map, length, get_or, take, replicate}
use Rattle.std.proofs.Common.{arith}
use Rattle.std.proofs.Math.ListN.{get_or-eq_default}
use Rattle.paper.specs.declared.Refusal.TheVariants.{Many, Room, Job as Malformed}
use Rattle.paper.specs.Allowed.{spaced_limits, limits_of, page_limits_of}
use Rattle.paper.specs.Told.{told_refusal}
use Rattle.job.specs.declared.Asked.TheVariants.{Paragraph, Index}
use Rattle.std.specs.Prelude.{Err}
use Rattle.job.specs.Reader.{number, asked_by, JobAnswer, read_as, read_outcome}
use Rattle.job.specs.Promise.{told_job, no_limits, no_pages}
use Rattle.job.specs.Jobs.{bytes, job_P1, job_space, job_G1, worked}

-- low byte first
pub number_of_bytes : number (1 ∷ 2 ∷ 3 ∷ 4 ∷ []) 0 ≡ 67305985
number_of_bytes = refl

-- a strip of six nines
abbrev nines : List ℕ
nines = replicate 6 9

abbrev index27 : ℕ → JobAnswer
index27 n = read_as (record { count = 2; asked = Index (page_limits_of 2 7) }) n

-- ---- jobs that are read: the n lengths are written, and no entry past them. "A count of 0 lengths is read".
pub read_jobs : map (λ (job : List ℕ). read_outcome job nines) (job_P1 ∷ job_space ∷ job_G1 ∷ bytes (2 ∷ 2 ∷ 7 ∷ 0 ∷ []) ∷ [])
    ≡ record { answer = read_as (record { count = 4; asked = Paragraph (limits_of 1 6 6 1) }) 4; strips = 3 ∷ 2 ∷ 2 ∷ 5 ∷ 9 ∷ 9 ∷ [] }
    ∷ record { answer = read_as (record { count = 5; asked = Paragraph (spaced_limits 1 5 6 1 1) }) 4; strips = 4 ∷ 3 ∷ 3 ∷ 6 ∷ 9 ∷ 9 ∷ [] }
    ∷ record { answer = index27 4; strips = 3 ∷ 4 ∷ 2 ∷ 5 ∷ 9 ∷ 9 ∷ [] }
    ∷ record { answer = index27 0; strips = nines }
    ∷ []
unfolding worked
read_jobs = refl

-- "n 4,096 read"
pub read_most : read_outcome (bytes (2 ∷ 2 ∷ 7 ∷ []) ++ (0 ∷ 16 ∷ 0 ∷ 0 ∷ replicate 16384 0)) (replicate 4096 9)
    ≡ record { answer = index27 4096; strips = replicate 4096 0 }
unfolding worked
read_most = refl

-- W-202: "Count 4 means space 0."
pub four_no_space : (l : List ℕ) → length l ≡ 4 →
    asked_by 4 l ≡ Paragraph (limits_of (get_or l 0 0) (get_or l 1 0) (get_or l 2 0) (get_or l 3 0))
unfolding asked_by
four_no_space l e = rw (get_or-eq_default l 0 {n = 4} (omega arith))

-- ---- jobs that are refused
abbrev answers : List (List ℕ) → List JobAnswer
answers jobs = map (λ (job : List ℕ). (read_outcome job nines).answer) jobs

abbrev malformed_at : List ℕ → List JobAnswer
malformed_at places = map (λ (k : ℕ). Err (Malformed k)) places

-- no byte; a first count cut short; three that are none of 5, 4 and 2
pub first_counts : answers (
    [] ∷ (4 ∷ 0 ∷ 0 ∷ []) ∷ bytes (3 ∷ 1 ∷ 6 ∷ 6 ∷ 0 ∷ []) ∷ bytes (6 ∷ 1 ∷ 6 ∷ 6 ∷ 1 ∷ 0 ∷ 0 ∷ 0 ∷ []) ∷ (4 ∷ 0 ∷ 0 ∷ 1 ∷ []) ∷ [])
    ≡ malformed_at (0 ∷ 0 ∷ 0 ∷ 0 ∷ 0 ∷ [])
unfolding worked
first_counts = refl

-- cut before the limits, in the last of them, before n, in n, before the lengths, in the third of them; a byte left over
pub cut_jobs : answers (map (λ (k : ℕ). take k job_P1) (4 ∷ 18 ∷ 20 ∷ 23 ∷ 24 ∷ 33 ∷ []) ++ (job_P1 ++ (0 ∷ [])) ∷ [])
    ≡ malformed_at (4 ∷ 16 ∷ 20 ∷ 20 ∷ 24 ∷ 32 ∷ 40 ∷ [])
unfolding worked
cut_jobs = refl

-- with a space: cut in it, before n, in the third length; a byte left over
pub cut_space_jobs : answers (map (λ (k : ℕ). take k job_space) (22 ∷ 24 ∷ 37 ∷ []) ++ (job_space ++ (0 ∷ [])) ∷ [])
    ≡ malformed_at (20 ∷ 24 ∷ 36 ∷ 44 ∷ [])
unfolding worked
cut_space_jobs = refl

-- n is 4,097, or 2^32 - 1: MANY. It is 7, or 4,096: ROOM, before the lengths that are not there.
pub many_and_room : answers (map (λ (n : List ℕ). bytes (2 ∷ 2 ∷ 7 ∷ []) ++ n)
    ((1 ∷ 16 ∷ 0 ∷ 0 ∷ []) ∷ (255 ∷ 255 ∷ 255 ∷ 255 ∷ []) ∷ (7 ∷ 0 ∷ 0 ∷ 0 ∷ []) ∷ (0 ∷ 16 ∷ 0 ∷ 0 ∷ []) ∷ []))
    ≡ Err Many ∷ Err Many ∷ Err (Room 1) ∷ Err (Room 1) ∷ []
unfolding worked
many_and_room = refl

-- "A refused read leaves the lengths strip unchanged and returns zero for limits and n."
pub short_strip : read_outcome job_P1 (9 ∷ 9 ∷ 9 ∷ []) ≡ record { answer = Err (Room 1); strips = 9 ∷ 9 ∷ 9 ∷ [] }
unfolding worked
short_strip = refl

pub short_strip_told :
    told_job (Err (Room 1)) ≡ record { number = 5; place = 1; count = 0; limits = no_limits; pages = no_pages; n = 0 }
unfolding told_job told_refusal
short_strip_told = refl
