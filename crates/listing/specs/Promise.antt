-- What the listing promises: the answer and every byte of the buffer, from the job's bytes alone; and that any two outcomes that satisfy
-- the promise agree. Assumes nothing.
use Rattle.std.specs.Prelude.{ℕ, ◌≡◌, List, leb, length, Result, Ok, Err}
use Rattle.laws.specs.Number.{if}
use Rattle.laws.specs.Strip.{over}
use Rattle.laws.specs.Outcome.{Outcome, Promise, Is, agree, is_single}
use Rattle.listing.specs.declared.Short.{Short}

-- how many bytes were written, or that the buffer is too short for so many
abbrev pub Listed : Type 0
Listed = Result ℕ Short

abbrev pub short : ℕ → Listed
short size = Err (record { bytes = size })

-- the answer, and the buffer at exit
abbrev pub ListOutcome : Type 0
ListOutcome = Outcome Listed (List ℕ)

-- Where there is room the bytes stand at the front and the rest is as it was. A buffer that is too short is left unchanged, and the
-- answer says how many bytes there are.
unfoldable pub bytes_outcome : List ℕ → List ℕ → ListOutcome
bytes_outcome bytes s =
    if (leb (length bytes) (length s))
    (record { answer = Ok (length bytes); strips = over bytes s })
    (record { answer = short (length bytes); strips = s })

-- Any two outcomes that satisfy the promise agree.
pub list_agree : {o : ListOutcome} {r q : Listed} {s t : List ℕ} → Promise Is o r s → Promise Is o q t → (r ≡ q) × (s ≡ t)
list_agree = agree is_single
