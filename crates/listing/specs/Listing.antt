-- 01, "Job file and listing": the listing of a job, as bytes, from the job's bytes alone. Assumes nothing.
use Rattle.std.specs.Prelude.{ℕ, Bool, List, [], ◌∷◌, ◌++◌, length, get_or}
use Rattle.laws.specs.Cost.{Cost, none, some}
use Rattle.paper.specs.declared.Refusal.{Refusal}
use Rattle.paper.specs.Told.{Checked}
use Rattle.std.specs.Prelude.{Ok, Err}
use Rattle.paper.specs.Allowed.{most_words, limits_hold, page_limits_hold}
use Rattle.paper.specs.Paragraph as Paragraph
use Rattle.paper.specs.Paragraph.{end, line_length, charge}
use Rattle.paper.specs.Index as Index
use Rattle.paper.specs.Index.{item}
use Rattle.paper.specs.Told.{told_refusal, checked}
use Rattle.paper.specs.QueueRules.{queue_moves}
use Rattle.paper.specs.PointerRules.{pointer_moves}
use Rattle.job.specs.declared.Asked.{Asked}
use Rattle.job.specs.declared.Asked.TheVariants.{Paragraph as AskedParagraph, Index as AskedIndex}
use Rattle.job.specs.Reader.{Reading, refuse, accept, reading}
use Rattle.rows.specs.Rows.{ascii, digits, row}

-- ---- "A refusal prints one line: `refused`, number, place"
unfoldable pub refused : ℕ → ℕ → List ℕ
refused number place = row (ascii "refused") (number ∷ place ∷ [])

unfoldable pub refusal : Refusal → List ℕ
refusal r = refused (told_refusal r).number (told_refusal r).place

-- ---- of a paragraph and of an index: whether the limits hold, the space, the least total, the breaks or boundaries, and how many moves
-- are taken
unfoldable pub holds : Asked → Bool
holds (AskedParagraph l) = limits_hold l
holds (AskedIndex l) = page_limits_hold l

unfoldable pub space_in : Asked → ℕ
space_in (AskedParagraph l) = l.space
space_in (AskedIndex l) = 0

unfoldable pub least : Asked → List ℕ → Cost
least (AskedParagraph l) ws = Paragraph.best l ws 1
least (AskedIndex l) ws = Index.best l ws 0

unfoldable pub starts : Asked → List ℕ → List ℕ
starts (AskedParagraph l) ws = Paragraph.breaks l ws
starts (AskedIndex l) ws = Index.boundaries l ws

unfoldable pub move_count : Asked → List ℕ → ℕ
move_count (AskedParagraph l) ws = length (queue_moves l ws)
move_count (AskedIndex l) ws = length (pointer_moves l ws)

-- ---- "First n, the total, the count of lines; then for each line [a row]; then the count of moves."
abbrev pub headed : List ℕ → ℕ → List ℕ → ℕ → List ℕ → ℕ → List ℕ
headed kind n cost total starts count = row kind (n ∷ []) ++ (row cost (total ∷ []) ++ row starts (count ∷ []))

unfoldable pub head : Asked → ℕ → ℕ → ℕ → List ℕ
head (AskedParagraph l) n total count = headed (ascii "paragraph") n (ascii "penalty") total (ascii "lines") count
head (AskedIndex l) n total count = headed (ascii "index") n (ascii "keys") total (ascii "boundaries") count

-- "for each line its first word, length and penalty"; "Each boundary line has its index and its length." This is what follows a start's
-- index i, where the next start is j. W-202: "A line's length becomes the sum less one space width".
unfoldable pub values : Asked → List ℕ → ℕ → ℕ → List ℕ
values (AskedParagraph l) ws i j = line_length l ws i j ∷ charge l ws i j ∷ []
values (AskedIndex l) ws i j = item ws i ∷ []

abbrev pub start_row : Asked → List ℕ → ℕ → ℕ → List ℕ
start_row asked ws i j = row (digits i) (values asked ws i j)

-- A start goes up to the next one, the last to the end.
unfoldable pub start_rows : Asked → List ℕ → List ℕ → List ℕ
start_rows asked ws [] = []
start_rows asked ws (i ∷ is) = start_row asked ws i (get_or is 0 (end ws)) ++ start_rows asked ws is

abbrev pub moves_row : ℕ → List ℕ
moves_row moves = row (ascii "moves") (moves ∷ [])

abbrev pub set_rows : Asked → List ℕ → List ℕ → ℕ → ℕ → List ℕ
set_rows asked ws is total moves = head asked (length ws) total (length is) ++ (start_rows asked ws is ++ moves_row moves)

-- ---- NONE, or the setting: "for P4 it is `refused 6 0`"
unfoldable pub cost_listing : Asked → List ℕ → Cost → List ℕ
cost_listing asked ws none = refused 6 0
cost_listing asked ws (some total) = set_rows asked ws (starts asked ws) total (move_count asked ws)

unfoldable pub checked_listing : Asked → List ℕ → Checked → List ℕ
checked_listing asked ws (Err r) = refusal r
checked_listing asked ws (Ok _) = cost_listing asked ws (least asked ws)

-- No strip is too short: refusals 1 to 4, and then NONE or the setting.
unfoldable pub asked_listing : Asked → List ℕ → List ℕ
asked_listing asked ws = checked_listing asked ws (checked (holds asked) (space_in asked) ws [] [])

-- ---- the job: "A job is read to its end before anything is set." Its lengths have room.
unfoldable pub reading_listing : Reading → List ℕ
reading_listing (refuse r) = refusal r
reading_listing (accept limits ws) = asked_listing limits.asked ws

unfoldable pub listing_of : List ℕ → List ℕ
listing_of job = reading_listing (reading job most_words)
