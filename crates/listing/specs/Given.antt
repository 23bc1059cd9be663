-- The listing of a job is 01's listing of what the definitions give, case by case; and what the promise says of a buffer with room and of
-- one without. Assumes nothing but what each law states.
use Rattle.std.specs.Prelude.{ℕ, ◌≤◌, ◌<◌, ◌≡◌, List, [], length, take, drop}
use Rattle.std.proofs.Math.Path.{ap}
use Rattle.std.proofs.Common.{◌∙◌, ⊎_elim, arith, length-take}
use borrow.Author.Tests.{le-leb, lt-leb}
use Rattle.std.proofs.Math.Seq.{take-append_seam, drop-append_seam}
use Rattle.laws.specs.Number.{split}
use Rattle.laws.specs.Cost.{none, some}
use Rattle.laws.specs.Strip.{over}
use Rattle.paper.specs.declared.Refusal.{Refusal}
use Rattle.std.specs.Prelude.{Ok, Err}
use Rattle.paper.specs.Allowed.{most_words}
use Rattle.paper.specs.Told.{checked}
use Rattle.job.specs.declared.Asked.{Asked}
use Rattle.job.specs.declared.JobLimits.{JobLimits}
use Rattle.job.specs.Reader.{refuse, accept, reading}
use Rattle.job.specs.Bounds.{longest}
use Rattle.job.proofs.First.{reading_first}
use Rattle.listing.specs.Listing.{refused, refusal, holds, space_in, least, starts, move_count, set_rows}
use Rattle.listing.specs.Listing.{cost_listing, checked_listing, asked_listing, reading_listing, listing_of}
use Rattle.laws.specs.Outcome.{Promise, Is}
use Rattle.listing.specs.Promise.{Listed, short, bytes_outcome}

-- ---- a job that is not read
pub listed_unread : (job : List ℕ) (r : Refusal) → reading job most_words ≡ refuse r → listing_of job ≡ refusal r
unfolding listing_of reading_listing
listed_unread job r e = rw e

-- ---- "A job of any size [..] gets its right answer": more than 16,412 bytes are decided by any longer front.
pub listing_first : (job : List ℕ) (m : ℕ) → longest < m → listing_of (take m job) ≡ listing_of job
unfolding listing_of
listing_first job m long = ap reading_listing (reading_first job most_words m long)

-- ---- a job that is read
module _ (job : List ℕ) (limits : JobLimits) (ws : List ℕ) (read : reading job most_words ≡ accept limits ws) where
  abbrev asked : Asked
  asked = limits.asked

  pub listed_refused : (r : Refusal) → checked (holds asked) (space_in asked) ws [] [] ≡ Err r → listing_of job ≡ refusal r
  unfolding listing_of reading_listing asked_listing checked_listing
  listed_refused r e = rw (read, e)

  pub listed_none : checked (holds asked) (space_in asked) ws [] [] ≡ Ok tt → least asked ws ≡ none → listing_of job ≡ refused 6 0
  unfolding listing_of reading_listing asked_listing checked_listing cost_listing
  listed_none e f = rw (read, e, f)

  pub listed_set : checked (holds asked) (space_in asked) ws [] [] ≡ Ok tt → (total : ℕ) → least asked ws ≡ some total →
      listing_of job ≡ set_rows asked ws (starts asked ws) total (move_count asked ws)
  unfolding listing_of reading_listing asked_listing checked_listing cost_listing
  listed_set e total f = rw (read, e, f)

-- ---- the buffer
module _ (bytes s : List ℕ) {r : Listed} {t : List ℕ} (p : Promise Is (bytes_outcome bytes s) r t) where
  -- with room: the bytes stand at the front, and the rest is as it was
  pub with_room : length bytes ≤ length s →
      (r ≡ Ok (length bytes)) × (take (length bytes) t ≡ bytes) × (drop (length bytes) t ≡ drop (length bytes) s)
  unfolding bytes_outcome over
  with_room h =
      let fits = le-leb (length bytes) (length s) h in
      let q : Promise Is (record { answer = Ok (length bytes); strips = over bytes s }) r t = rw fits at p in (
        q.tells,
        ap (take (length bytes)) q.strips ∙ take-append_seam bytes (drop (length bytes) s),
        ap (drop (length bytes)) q.strips ∙ drop-append_seam bytes (drop (length bytes) s),
      )

  -- "A buffer that is too short gets a clear answer, and is left unchanged."
  pub without_room : length s < length bytes → (r ≡ short (length bytes)) × (t ≡ s)
  unfolding bytes_outcome
  without_room h =
      let q : Promise Is (record { answer = short (length bytes); strips = s }) r t = rw (lt-leb (length bytes) (length s) h) at p in
      (q.tells, q.strips)

  -- what is written lies in the buffer
  pub written_within : {n : ℕ} → r ≡ Ok n → n ≤ length t
  written_within {n} e =
      ⊎_elim
      (λ h. let same : n ≡ length bytes = cc (with_room h).0 in omega (arith, ap length (with_room h).1, length-take (length bytes) t))
      (λ h. let z : ◌≡◌ {A = ℕ} 0 1 = cc (without_room h).0 in absurd (omega arith))
      (split (length bytes) (length s))
