-- 01, "What a caller is told".
use Rattle.std.specs.Prelude.{ℕ, suc, ◌-◌, ◌^◌, Bool, true, false, not, List, [], ◌∷◌, ◌++◌, leb, ltb, eqb, length}
use Rattle.std.specs.Prelude.{Option, Some, None, Result, Ok, Err}
use Rattle.laws.specs.Number.{if}
use Rattle.paper.specs.declared.Limits.{Limits}
use Rattle.paper.specs.declared.Refusal.{Refusal}
use Rattle.paper.specs.declared.Refusal.TheVariants.{Empty, Many, Limits as BadLimits, Length, Room, Job}
use Rattle.paper.specs.declared.Set.{Set}
use Rattle.paper.specs.declared.Unset.{Unset}
use Rattle.paper.specs.declared.Unset.TheVariants.{None as NoSetting, Refused}
use Rattle.paper.specs.Allowed.{most_words, length_holds, limits_hold, most_alone}
use Rattle.paper.specs.Lines.{inside}
use Rattle.paper.specs.Paragraph.{penalty}

-- ---- what each case of an answer tells: 01's number (0 where a setting is given), place, total, lines and moves
pub record Told : Type 0 where
  pub number : ℕ
  pub place : ℕ
  pub total : ℕ
  pub lines : ℕ
  pub moves : ℕ

abbrev pub refused_at : ℕ → ℕ → Told
refused_at number place = record { number = number; place = place; total = 0; lines = 0; moves = 0 }

-- the table of numbers and places: "Refusals 1 to 5 [..] return zero for total, lines and moves."
unfoldable pub told_refusal : Refusal → Told
told_refusal Empty = refused_at 1 0
told_refusal Many = refused_at 2 0
told_refusal BadLimits = refused_at 3 0
told_refusal (Length word) = refused_at 4 word
told_refusal (Room strip) = refused_at 5 strip
told_refusal (Job offset) = refused_at 7 offset

-- the answer of a setter, and its three cases
abbrev pub Answer : Type 0
Answer = Result Set Unset

abbrev pub set_answer : ℕ → ℕ → ℕ → Answer
set_answer total lines moves = Ok (record { total = total; lines = lines; moves = moves })

abbrev pub none_answer : ℕ → Answer
none_answer moves = Err (NoSetting moves)

abbrev pub refused_answer : Refusal → Answer
refused_answer r = Err (Refused r)

-- "NONE [..] returns the count of moves, and zero for the rest."
unfoldable pub told : Answer → Told
told (Ok s) = record { number = 0; place = 0; total = s.total; lines = s.lines; moves = s.moves }
told (Err (NoSetting moves)) = record { number = 6; place = 0; total = 0; lines = 0; moves = moves }
told (Err (Refused r)) = told_refusal r

-- a total and nothing else
abbrev pub told_total : ℕ → Told
told_total total = record { number = 0; place = 0; total = total; lines = 0; moves = 0 }

-- the answer to one who asks for the penalty of a line alone: it, none where the line is outside the measure, or a refusal
abbrev pub Alone : Type 0
Alone = Result (Option ℕ) Refusal

-- "Either refusal returns zero for the penalty." "outside" (W-204) is no refusal: it is told as 2^64 - 1, 01's "no setting", which no
-- penalty inside the measure reaches (paper_theory: `penalty_bound`).
unfoldable pub told_penalty : Alone → Told
told_penalty (Ok (Some p)) = told_total p
told_penalty (Ok None) = told_total (2 ^ 64 - 1)
told_penalty (Err r) = told_refusal r

-- ---- when each is given
-- the number of the first entry that fails the test, counted from k; 0 where none does
unfoldable pub first_failing : {A : Type 0} → (A → Bool) → ℕ → List A → ℕ
first_failing ok k [] = 0
first_failing ok k (x ∷ xs) = elim (ok x) [ true ↦ first_failing ok (suc k) xs | false ↦ k ]

-- the number of the first strip that has fewer entries than it needs, counted from k; 0 where none does
unfoldable pub first_short : ℕ → List ℕ → List ℕ → ℕ
first_short k [] needs = 0
first_short k (has ∷ hs) [] = 0
first_short k (has ∷ hs) (needs ∷ ns) = elim (leb needs has) [ true ↦ first_short (suc k) hs ns | false ↦ k ]

-- A row of the table: a refusal, and whether that for which it is given is so. R is Refusal; a later part's is a type of its own, which has
-- the table's refusals as `plain`.
pub record Check (R : Type 0) : Type 0 where
  pub refusal : R
  pub applies : Bool

infix 70 ◌when◌
abbrev pub ◌when◌ : {R : Type 0} → R → Bool → Check R
refusal when applies = record { refusal = refusal; applies = applies }

-- what a part varies
pub record Checks (R : Type 0) : Type 0 where
  -- the most words, and n
  pub most : ℕ
  pub n : ℕ
  -- the rows of LIMITS
  pub limits : List (Check R)
  -- the first word of a bad length, 0 for none
  pub word : ℕ
  -- the part's own rows, before ROOM
  pub own : List (Check R)
  -- what entries the strips have, in their order, and what they need
  pub has : List ℕ
  pub needs : List ℕ

module _ {R : Type 0} (plain : Refusal → R) where
  -- "n is 0"
  abbrev pub EMPTY : ℕ → Check R
  EMPTY n = plain Empty when eqb n 0

  -- "n > 4,096"
  abbrev pub MANY : ℕ → ℕ → Check R
  MANY most n = plain Many when ltb most n

  -- "the limits break the rules above"
  abbrev pub LIMITS : Bool → Check R
  LIMITS hold = plain BadLimits when not hold

  -- "some length is 0 or above 4,095", or, by W-202, not above the space; "the first such word"
  abbrev pub LENGTH : ℕ → Check R
  LENGTH word = plain (Length word) when not (eqb word 0)

  -- "a strip is too short", "the first such strip's number in the order above"
  abbrev pub ROOM : ℕ → Check R
  ROOM strip = plain (Room strip) when not (eqb strip 0)

  -- "The setter checks in the order 1 to 6". These are 1 to 5.
  abbrev pub in_order : Checks R → List (Check R)
  in_order c = EMPTY c.n ∷ MANY c.most c.n ∷ c.limits ++ LENGTH c.word ∷ c.own ++ ROOM (first_short 1 c.has c.needs) ∷ []

-- "the first that applies is given": that refusal, or acceptance where none does
abbrev pub first_given : {R A : Type 0} → (R → A) → A → List (Check R) → A
first_given refuse accept [] = accept
first_given refuse accept (c ∷ cs) = if c.applies (refuse c.refusal) (first_given refuse accept cs)

-- what checks find: a refusal, or none
abbrev pub Checked : Type 0
Checked = Result (Unit {0}) Refusal

-- what is said of a refusal that was found, and else what comes later
abbrev pub unless : {A : Type 0} → (Refusal → A) → Checked → A → A
unless refuse (Err r) later = refuse r
unless refuse (Ok _) later = later

abbrev pub itself : Refusal → Refusal
itself r = r

abbrev pub given : List (Check Refusal) → Checked
given = first_given Err (Ok tt)

-- those of a paragraph and of an index, whose limits hold or not and have that space
abbrev pub setter_checks : Bool → ℕ → List ℕ → List ℕ → List ℕ → Checks Refusal
setter_checks hold space ws has needs = record {
  most = most_words;
  n = length ws;
  limits = LIMITS itself hold ∷ [];
  word = first_failing (length_holds space) 1 ws;
  own = [];
  has = has;
  needs = needs;
}

unfoldable pub checked : Bool → ℕ → List ℕ → List ℕ → List ℕ → Checked
checked hold space ws has needs = given (in_order itself (setter_checks hold space ws has needs))

-- "The penalty formula can also be asked for alone, from paragraph limits and one length from 0 to 16,773,120. [..] Bad limits are LIMITS;
-- then a larger length is LENGTH, place 0." W-204: "Outside lmin..lmax it gets a number that looks cheap; there the function shall answer
-- "outside"." The length is that of a line, the space off already.
unfoldable pub penalty_alone : Limits → ℕ → Alone
penalty_alone l x =
    if (not (limits_hold l)) (Err BadLimits)
    (if (ltb most_alone x) (Err (Length 0))
    (if (inside l.lmin l.lmax x) (Ok (Some (penalty l x))) (Ok None)))
