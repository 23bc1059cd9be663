-- How far a read goes: an accepted one's lengths have room in the strip and are at most 4,096, and a refused one's place is at most 16,412.
use Rattle.std.specs.Prelude.{ℕ, ◌+◌, ◌*◌, ◌≤◌, length}
use Rattle.paper.specs.Allowed.{most_words}
use Rattle.paper.specs.Told.{told_refusal}
use Rattle.job.specs.Reader.{Reading, refuse, accept}

-- the most limits that a count announces, and the bytes of the longest job that is read: 16,412
abbrev pub most_limits : ℕ
most_limits = 5

abbrev pub longest : ℕ
longest = 8 + 4 * most_limits + 4 * most_words

abbrev pub Within : ℕ → Reading → Type 0
Within room (refuse r) = (told_refusal r).place ≤ longest
Within room (accept limits ws) = (length ws ≤ room) × (length ws ≤ most_words)
