-- No listing has more than 81,979 bytes, so that a buffer of that many is never too short. Assumes nothing but what each law states.
use Rattle.std.specs.Prelude.{ℕ, suc, ◌+◌, ◌*◌, ◌^◌, ◌≤◌, ◌<◌, ◌≡◌, refl, Bool, true, false, not, List, [], ◌∷◌, ltb, eqb, length, get_or}
use Rattle.std.proofs.Common.{arith, ltb-false, length-append}
use Rattle.laws.specs.Cost.{Cost, none, some}
use Rattle.laws.specs.Outcome.{Promise, Is}
use Rattle.paper.specs.declared.Refusal.{Refusal}
use Rattle.paper.specs.declared.Refusal.TheVariants.{Empty, Many, Limits as BadLimits, Length, Room, Job as Malformed}
use Rattle.paper.specs.Told.{Checked}
use Rattle.std.specs.Prelude.{Ok, Err}
use Rattle.paper.specs.Allowed.{most_words, length_holds, Passed}
use Rattle.paper.specs.Paragraph.{end}
use Rattle.paper.specs.Told.{told_refusal, checked, first_failing, first_short}
use Rattle.refusals.specs.Accepted.{accepted}
use Rattle.job.specs.declared.Asked.{Asked}
use Rattle.job.specs.declared.Asked.TheVariants.{Paragraph as AskedParagraph, Index as AskedIndex}
use Rattle.job.specs.Reader.{Reading, refuse, accept, reading}
use Rattle.job.specs.Bounds.{Within}
use Rattle.job.proofs.Bounds.{if_holds, reading_within}
use Rattle.rows.specs.Rows.{ascii}
use Rattle.rows.specs.Digits.{digits_width}
use Rattle.rows.specs.Size.{row_one, row_two}
use Rattle.rows.specs.Puts.{sizes}
use Rattle.listing.specs.Promise.{Listed}
use Rattle.listing.specs.Listing.{refused, refusal, holds, space_in, least, starts, move_count, headed, head, start_row, start_rows}
use Rattle.listing.specs.Listing.{moves_row, cost_listing, checked_listing, asked_listing, reading_listing, listing_of}
use Rattle.listing.specs.Asks.{Segments}
use Rattle.listing.specs.Settings.{SetIs}
use Rattle.listing.proofs.Settings.{four_digits, start_size, set_is}
use Rattle.listing.specs.Promise.{bytes_outcome}
use Rattle.listing.specs.Given.{with_room}
use Rattle.listing.specs.Size.{most_bytes}

-- ---- the rows of a setting
headed_size : (kind : List ℕ) (n : ℕ) (cost : List ℕ) (total : ℕ) (starts : List ℕ) (count : ℕ) →
    n ≤ most_words → total < 2 ^ 40 → count ≤ most_words →
    length (headed kind n cost total starts count) ≤ length kind + length cost + length starts + 27
headed_size kind n cost total starts count hn ht hc =
    simp length-append
    (omega (
      arith,
      row_one kind n,
      row_one cost total,
      row_one starts count,
      four_digits n (omega arith),
      digits_width 13 total (omega arith) (omega arith),
      four_digits count (omega arith),
    ))

head_size : (asked : Asked) (n total count : ℕ) →
    n ≤ most_words → total < 2 ^ 40 → count ≤ most_words → length (head asked n total count) ≤ 48
unfolding head
head_size (AskedParagraph l) n total count hn ht hc =
    omega (arith, headed_size (ascii "paragraph") n (ascii "penalty") total (ascii "lines") count hn ht hc)
head_size (AskedIndex l) n total count hn ht hc =
    omega (arith, headed_size (ascii "index") n (ascii "keys") total (ascii "boundaries") count hn ht hc)

starts_size : (asked : Asked) (ws : List ℕ) → Passed (holds asked) (space_in asked) ws → (is : List ℕ) → Segments asked ws is →
    length (start_rows asked ws is) ≤ 20 * length is
unfolding start_rows
starts_size asked ws passed [] all = omega arith
starts_size asked ws passed (i ∷ is) all =
    let next = get_or is 0 (end ws) in
    omega (
      arith,
      length-append (start_row asked ws i next) (start_rows asked ws is),
      start_size asked ws i next passed (all.each 0 (omega arith)),
      starts_size asked ws passed is (record { each = λ k h. all.each (suc k) (omega arith) }),
    )

pub set_size : (asked : Asked) (ws : List ℕ) → Passed (holds asked) (space_in asked) ws → (total : ℕ) →
    SetIs asked ws (starts asked ws) total →
    sizes
    (head asked (length ws) total (length (starts asked ws)) ∷ start_rows asked ws (starts asked ws) ∷ moves_row (move_count asked ws) ∷ [])
    ≤ most_bytes
set_size asked ws passed total s =
    omega (
      arith,
      head_size asked (length ws) total (length (starts asked ws)) passed.few s.small (omega (arith, s.few, passed.few)),
      starts_size asked ws passed (starts asked ws) s.all,
      row_one (ascii "moves") (move_count asked ws),
      four_digits (move_count asked ws) (omega (arith, s.moves, passed.few)),
      s.few,
      passed.few,
    )

-- ---- a refusal
pub refused_size : (j k number place : ℕ) → number < 10 ^ j → 1 ≤ j → place < 10 ^ k → 1 ≤ k → length (refused number place) ≤ 10 + j + k
unfolding refused
refused_size j k number place h hj g hk =
    omega (arith, row_two (ascii "refused") number place, digits_width j number h hj, digits_width k place g hk)

-- its number has one digit, its place at most five
one_digit : (r : Refusal) → (told_refusal r).number < 10
unfolding told_refusal
one_digit Empty = omega arith
one_digit Many = omega arith
one_digit BadLimits = omega arith
one_digit (Length word) = omega arith
one_digit (Room strip) = omega arith
one_digit (Malformed offset) = omega arith

refusal_size : (r : Refusal) → (told_refusal r).place < 10 ^ 5 → length (refusal r) ≤ 16
unfolding refusal
refusal_size r h = refused_size 1 5 (told_refusal r).number (told_refusal r).place (one_digit r) (omega arith) h (omega arith)

-- a length that fails is one of the words
failing_within : (ok : ℕ → Bool) (k : ℕ) (ws : List ℕ) → first_failing ok k ws ≤ k + length ws
unfolding first_failing
failing_within ok k [] = omega arith
failing_within ok k (w ∷ ws) = go (ok w) (failing_within ok (suc k) ws)
  where
    go : (b : Bool) → first_failing ok (suc k) ws ≤ suc k + length ws →
        elim b [ true ↦ first_failing ok (suc k) ws | false ↦ k ] ≤ k + suc (length ws)
    go true h = omega arith
    go false h = omega arith

abbrev PlaceFew : Checked → Type 0
PlaceFew (Ok _) = Unit {0}
PlaceFew (Err r) = (told_refusal r).place < 10 ^ 5

checked_few : (hold : Bool) (space : ℕ) (ws : List ℕ) → PlaceFew (checked hold space ws [] [])
unfolding checked first_short told_refusal
checked_few hold space ws =
    let step = if_holds PlaceFew in
    let bad = first_failing (length_holds space) 1 ws in
    step (eqb (length ws) 0) _ _ (λ t. omega arith) (λ some. step (ltb most_words (length ws)) _ _ (λ t. omega arith) (λ few.
    step (not hold) _ _ (λ t. omega arith) (λ hold. step (not (eqb bad 0)) _ _
    (λ t. omega (arith, failing_within (length_holds space) 1 ws, ltb-false most_words (length ws) few)) (λ all. tt))))

-- ---- any listing
asked_size : (asked : Asked) (ws : List ℕ) → length (asked_listing asked ws) ≤ most_bytes
unfolding asked_listing checked_listing cost_listing
asked_size asked ws = checked_size (checked (holds asked) (space_in asked) ws [] []) refl (checked_few (holds asked) (space_in asked) ws)
  where
    cost_size : Passed (holds asked) (space_in asked) ws → (c : Cost) → least asked ws ≡ c → length (cost_listing asked ws c) ≤ most_bytes
    cost_size passed none e = omega (arith, refused_size 1 1 6 0 (omega arith) (omega arith) (omega arith) (omega arith))
    cost_size passed (some v) e = simp length-append (omega (arith, set_size asked ws passed v (set_is asked ws passed v e)))

    checked_size : (c : Checked) → checked (holds asked) (space_in asked) ws [] [] ≡ c → PlaceFew c →
        length (checked_listing asked ws c) ≤ most_bytes
    checked_size (Err r) e p = omega (arith, refusal_size r p)
    checked_size (Ok tt) e p = cost_size (accepted (holds asked) (space_in asked) ws [] [] e).passed (least asked ws) refl

reading_size : (o : Reading) → Within most_words o → length (reading_listing o) ≤ most_bytes
unfolding reading_listing
reading_size (refuse r) h = omega (arith, refusal_size r (omega (arith, h)))
reading_size (accept limits ws) h = asked_size limits.asked ws

pub listing_size : (job : List ℕ) → length (listing_of job) ≤ most_bytes
unfolding listing_of
listing_size job = reading_size (reading job most_words) (reading_within job most_words)

-- A buffer of so many bytes always gets the listing.
pub always_written : (job s : List ℕ) {r : Listed} {t : List ℕ} → most_bytes ≤ length s →
    Promise Is (bytes_outcome (listing_of job) s) r t →
    r ≡ Ok (length (listing_of job))
always_written job s room p = (with_room (listing_of job) s p (omega (arith, listing_size job))).0
