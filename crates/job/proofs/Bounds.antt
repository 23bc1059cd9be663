-- Every read stays within its bounds, since no number that is read begins later. Assumes nothing.
use Rattle.std.specs.Prelude.{ℕ, ◌+◌, ◌*◌, ◌/◌, ◌≤◌, ◌≡◌, refl, Bool, true, false, List, ltb, eqb, length, drop, ◌||◌}
use Rattle.std.proofs.Common.{ap, subst, arith}
use Rattle.std.proofs.Math.Logic.{⊎_elim}
use borrow.Author.Tests.{eqb-true, ltb-false}
use Rattle.laws.specs.Number.{if, split}
use Rattle.laws.specs.Strip.{over, length_over}
use Rattle.laws.specs.Outcome.{Promise, Is}
use Rattle.paper.specs.Allowed.{most_words}
use Rattle.paper.specs.Told.{told_refusal}
use Rattle.job.specs.declared.JobLimits.{JobLimits}
use Rattle.job.specs.Reader.{JobAnswer, read_as}
use Rattle.job.specs.Reader.{Reading, accept, section, counted, to_end, lengths_from, lengths_after}
use Rattle.job.specs.Reader.{announced, limits_by, limits_from, reading, read_outcome}
use Rattle.job.specs.Section.{first_numbers, length_numbers, section_whole, section_cut}
use Rattle.job.specs.Promise.{accepted_writes}
use Rattle.job.specs.Bounds.{most_limits, longest, Within}

either : {P : Type 0} (a b : Bool) → (a ≡ true → P) → (b ≡ true → P) → (a || b) ≡ true → P
either true b p q e = p refl
either false b p q e = q e

pub announced_most : (count : ℕ) → announced count ≡ true → count ≤ most_limits
unfolding announced
announced_most count =
    either (eqb count 5) (eqb count 4 || eqb count 2) (λ e. omega (arith, eqb-true count 5 e))
    (either (eqb count 4) (eqb count 2) (λ e. omega (arith, eqb-true count 4 e)) (λ e. omega (arith, eqb-true count 2 e)))

pub if_holds : {A : Type 0} (P : A → Type 0) (b : Bool) (x y : A) → (b ≡ true → P x) → (b ≡ false → P y) → P (if b x y)
if_holds P true x y p q = p refl
if_holds P false x y p q = q refl

module _ (job : List ℕ) (room : ℕ) where
  section_within : (at n : ℕ) (made : List ℕ → Reading) → at + 4 * n ≤ longest → ((xs : List ℕ) → length xs ≡ n → Within room (made xs)) →
      Within room (section job at n made)
  unfolding told_refusal
  section_within at n made h all =
      ⊎_elim
      (λ g. rw (section_whole job at n made g) (all (first_numbers (drop at job) n) (length_numbers (drop at job) n)))
      (λ g. rw (section_cut job at n made g) (omega arith))
      (split n (length (drop at job) / 4))

  lengths_within : (limits : JobLimits) (at n : ℕ) → at ≤ 8 + 4 * most_limits → Within room (lengths_from job room limits at n)
  unfolding lengths_from to_end told_refusal
  lengths_within limits at n h =
      let step = if_holds (Within room) in
      step (ltb most_words n) _ _ (λ many. omega arith) (λ few. step (ltb room n) _ _ (λ short. omega arith) (λ fits.
      section_within at n _ (omega (arith, ltb-false most_words n few)) (λ ws e. step (ltb (at + 4 * n) (length job)) _ _
      (λ left. omega (arith, ltb-false most_words n few)) (λ end. omega (arith, ltb-false room n fits, ltb-false most_words n few)))))

  after_within : (at : ℕ) (limits : JobLimits) → at ≤ 4 + 4 * most_limits → Within room (lengths_after job room at limits)
  unfolding lengths_after counted
  after_within at limits h = section_within at 1 _ (omega arith) (λ xs e. lengths_within limits (at + 4) _ (omega arith))

  pub reading_within : Within room (reading job room)
  unfolding reading counted limits_from told_refusal
  reading_within =
      section_within 0 1 _ (omega arith) (λ xs e. if_holds (Within room) (announced _) _ _
      (λ f. section_within 4 _ _ (omega (arith, announced_most _ f)) (λ l g. after_within _ (limits_by _ l)
      (omega (arith, announced_most _ f))))
      (λ other. omega arith))

-- One who reads a job finds its n lengths in the strip.
pub read_within : (job s : List ℕ) {r : JobAnswer} {t : List ℕ} {limits : JobLimits} {n : ℕ} →
    Promise Is (read_outcome job s) r t → r ≡ read_as limits n → n ≤ length t
unfolding read_outcome
read_within job s {t = t} {limits = limits} p e =
    let a = accepted_writes (reading job (length s)) s p e in
    let f : Within (length s) (accept limits a.lengths) = subst (Within (length s)) a.is (reading_within job (length s)) in
    let m : length t ≡ length (over a.lengths s) = ap length a.written in
    omega (arith, a.count, length_over a.lengths s f.0)
