-- What the reader promises, what its answer tells, and what follows from the promise alone. Assumes nothing.
use Rattle.std.specs.Prelude.{ℕ, ◌≡◌, List, length, Ok, Err}
use Rattle.std.proofs.Common.{ap, sym, ◌∙◌, arith}
use Rattle.job.specs.declared.Job.{Job}
use Rattle.laws.specs.Strip.{over}
use Rattle.laws.specs.Outcome.{Promise, Is, agree, is_single}
use Rattle.paper.specs.declared.Limits.{Limits}
use Rattle.paper.specs.declared.PageLimits.{PageLimits}
use Rattle.paper.specs.declared.Refusal.{Refusal}
use Rattle.paper.specs.Allowed.{limits_of, page_limits_of}
use Rattle.paper.specs.Told.{told_refusal}
use Rattle.job.specs.declared.Asked.{Asked}
use Rattle.job.specs.declared.Asked.TheVariants.{Paragraph, Index}
use Rattle.job.specs.declared.JobLimits.{JobLimits}
use Rattle.job.specs.Reader.{Reading, refuse, accept, JobAnswer, read_as, ReadOutcome, reading_outcome}

-- Any two outcomes that satisfy the promise agree.
pub read_agree : {o : ReadOutcome} {r q : JobAnswer} {s t : List ℕ} → Promise Is o r s → Promise Is o q t → (r ≡ q) × (s ≡ t)
read_agree = agree is_single

-- ---- what each case of the answer tells: 01's number (0 where the job is read) and place, the first count, the limits of a
-- paragraph or of an index, and n
pub record ToldJob : Type 0 where
  pub number : ℕ
  pub place : ℕ
  pub count : ℕ
  pub limits : Limits
  pub pages : PageLimits
  pub n : ℕ

abbrev pub no_limits : Limits
no_limits = limits_of 0 0 0 0

abbrev pub no_pages : PageLimits
no_pages = page_limits_of 0 0

abbrev pub told_limits : ℕ → Asked → ℕ → ToldJob
told_limits count (Paragraph l) n = record { number = 0; place = 0; count = count; limits = l; pages = no_pages; n = n }
told_limits count (Index l) n = record { number = 0; place = 0; count = count; limits = no_limits; pages = l; n = n }

-- "A refused read [..] returns zero for limits and n."
unfoldable pub told_job : JobAnswer → ToldJob
told_job (Ok job) = told_limits job.limits.count job.limits.asked job.n
told_job (Err r) =
    record { number = (told_refusal r).number; place = (told_refusal r).place; count = 0; limits = no_limits; pages = no_pages; n = 0 }

-- ---- "A refused read leaves the lengths strip unchanged"
pub refused_unchanged : (o : Reading) (s : List ℕ) {r : JobAnswer} {t : List ℕ} (q : Refusal) →
    Promise Is (reading_outcome o s) r t → r ≡ Err q → t ≡ s
unfolding reading_outcome
refused_unchanged (refuse q') s q p e = p.strips
refused_unchanged (accept limits ws) s q p e =
    let z : ◌≡◌ {A = ℕ} 0 1 = cc p.tells in
    absurd (omega arith)

-- ---- "An accepted read writes the n lengths and no entry past them."
pub record ReadInto (o : Reading) (s : List ℕ) (limits : JobLimits) (n : ℕ) (t : List ℕ) : Type 0 where
  pub lengths : List ℕ
  pub is : o ≡ accept limits lengths
  pub count : n ≡ length lengths
  pub written : t ≡ over lengths s

job_or : Job → JobAnswer → Job
job_or other (Ok job) = job
job_or other (Err r) = other

pub accepted_writes : (o : Reading) (s : List ℕ) {r : JobAnswer} {t : List ℕ} {limits : JobLimits} {n : ℕ} →
    Promise Is (reading_outcome o s) r t → r ≡ read_as limits n → ReadInto o s limits n t
unfolding reading_outcome job_or
accepted_writes (refuse q) s p e =
    let z : ◌≡◌ {A = ℕ} 0 1 = cc p.tells in
    absurd (omega arith)
accepted_writes (accept a ws) s p e =
    let same = ap (λ (r : JobAnswer). job_or (record { limits = a; n = length ws }) r) (sym p.tells ∙ e) in
    record {
      lengths = ws;
      is = ap (λ (j : Job). accept j.limits ws) same;
      count = sym (ap (λ (j : Job). j.n) same);
      written = p.strips;
    }
