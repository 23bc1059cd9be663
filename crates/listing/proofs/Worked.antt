-- 01's listings byte for byte, one of W-202, and some refusals, computed from the definitions. Assumes nothing.
use Rattle.std.specs.Prelude.{ℕ, ◌≡◌, refl, List, [], ◌∷◌, ◌++◌, map}
use Rattle.paper.specs.Computes.{paragraph_computes, index_computes}
use Rattle.paper.specs.Paragraph as Paragraph
use Rattle.paper.specs.Told.{told_refusal}
use Rattle.job.specs.Jobs as Jobs
use Rattle.job.specs.Jobs.{bytes, job_P1, job_space, job_G1}
use Rattle.rows.specs.Rows.{ascii, digits_in, digits, row_rest, row}
use Rattle.listing.specs.Listing.{refused, refusal, holds, space_in, least, starts, move_count, head, values, start_rows}
use Rattle.listing.specs.Listing.{cost_listing, checked_listing, asked_listing, reading_listing, listing_of}

-- the listing, with all that it rests on open
unfoldable worked : List ℕ → List ℕ
unfolding Jobs.worked paragraph_computes index_computes Paragraph.charge told_refusal
    digits_in digits row_rest row refused refusal holds space_in least starts move_count head values start_rows
    cost_listing checked_listing asked_listing reading_listing listing_of
worked = listing_of

-- "For the numbers 4 1 6 6 1 4 3 2 2 5 it prints:"
pub listing_P1 : listing_of job_P1 ≡ ascii "paragraph 4\npenalty 13\nlines 3\n1 3 9\n2 4 4\n4 5 0\nmoves 7\n"
unfolding worked
listing_P1 = refl

-- W-202, with a space of 1: each length is one less than the sum
pub listing_space : listing_of job_space ≡ ascii "paragraph 4\npenalty 4\nlines 3\n1 3 4\n2 5 0\n4 5 0\nmoves 7\n"
unfolding worked
listing_space = refl

-- "For an index, with 2 2 7 4 3 4 2 5:"
pub listing_G1 : listing_of job_G1 ≡ ascii "index 4\nkeys 2\nboundaries 1\n3 2\nmoves 3\n"
unfolding worked
listing_G1 = refl

-- "for P4 it is `refused 6 0`"
pub listing_P4 : listing_of (bytes (4 ∷ 6 ∷ 8 ∷ 9 ∷ 1 ∷ 2 ∷ 5 ∷ 5 ∷ [])) ≡ ascii "refused 6 0\n"
unfolding worked
listing_P4 = refl

-- no byte; a number cut short; a byte left over; no lengths; lmin = lmax; the second length is 0; it is not above the space
pub listing_refused : map listing_of (
    [] ∷ (4 ∷ 0 ∷ 0 ∷ 0 ∷ 1 ∷ []) ∷ (bytes (2 ∷ 2 ∷ 7 ∷ 1 ∷ 3 ∷ []) ++ (9 ∷ [])) ∷ bytes (2 ∷ 2 ∷ 7 ∷ 0 ∷ [])
    ∷ bytes (2 ∷ 7 ∷ 7 ∷ 1 ∷ 3 ∷ []) ∷ bytes (4 ∷ 1 ∷ 6 ∷ 6 ∷ 1 ∷ 2 ∷ 3 ∷ 0 ∷ []) ∷ bytes (5 ∷ 1 ∷ 6 ∷ 6 ∷ 1 ∷ 2 ∷ 2 ∷ 3 ∷ 2 ∷ []) ∷ [])
    ≡ map ascii ("refused 7 0\n" ∷ "refused 7 4\n" ∷ "refused 7 20\n" ∷ "refused 1 0\n" ∷ "refused 3 0\n" ∷ "refused 4 2\n"
    ∷ "refused 4 2\n" ∷ [])
unfolding worked
listing_refused = refl
