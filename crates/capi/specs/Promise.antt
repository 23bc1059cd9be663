-- What callers from C and Rust are promised: an answer as 01's numbers, and every strip. Assumes nothing.
use Rattle.std.specs.Prelude.{◌≡◌, List, ℕ, ◌+◌}
use Rattle.laws.specs.Outcome.{Outcome, Promise, agree, As, as_single}
use Rattle.paper.specs.Told.{Answer}
use Rattle.paper.specs.Told.{Told, told}
use Rattle.paper.specs.Strips.{ParagraphStrips, ParagraphOutcome, IndexStrips, IndexOutcome}
use Rattle.job.specs.Promise.{ToldJob, told_job}
use Rattle.job.specs.Reader.{ReadOutcome}
use Rattle.capi.specs.declared.Numbers.{Numbers}
use Rattle.capi.specs.declared.JobNumbers.{JobNumbers}

-- ---- what is told, in the struct that crosses
abbrev pub in_numbers : Told → Numbers
in_numbers t = record { number = t.number; place = t.place; total = t.total; lines = t.lines; moves = t.moves }

-- the limits of a paragraph, or those of an index, where lopt, a and the space are 0; what is not asked for is 0 in what is told
abbrev pub in_job_numbers : ToldJob → JobNumbers
in_job_numbers t = record {
  number = t.number;
  place = t.place;
  count = t.count;
  lmin = t.limits.lmin + t.pages.lmin;
  lopt = t.limits.lopt;
  lmax = t.limits.lmax + t.pages.lmax;
  a = t.limits.a;
  space = t.limits.space;
  n = t.n;
}

-- ---- the promises, and that any two outcomes that satisfy one agree
abbrev pub NumbersPromise : {S : Type 0} → Outcome Answer S → Numbers → S → Type 0
NumbersPromise = Promise (As (λ a. in_numbers (told a)))

pub paragraph_agree : {o : ParagraphOutcome} {a b : Numbers} {s t : ParagraphStrips} →
    NumbersPromise o a s → NumbersPromise o b t → (a ≡ b) × (s ≡ t)
paragraph_agree = agree (as_single _)

pub index_agree : {o : IndexOutcome} {a b : Numbers} {s t : IndexStrips} → NumbersPromise o a s → NumbersPromise o b t → (a ≡ b) × (s ≡ t)
index_agree = agree (as_single _)

pub tells_agree : {t : Told} {a b : Numbers} → a ≡ in_numbers t → b ≡ in_numbers t → a ≡ b
tells_agree = as_single in_numbers _ _ _

abbrev pub JobNumbersPromise : ReadOutcome → JobNumbers → List ℕ → Type 0
JobNumbersPromise = Promise (As (λ j. in_job_numbers (told_job j)))

pub job_agree : {o : ReadOutcome} {a b : JobNumbers} {s t : List ℕ} → JobNumbersPromise o a s → JobNumbersPromise o b t → (a ≡ b) × (s ≡ t)
job_agree = agree (as_single _)
