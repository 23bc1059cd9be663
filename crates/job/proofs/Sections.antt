-- The section reader at work, and what its caller learns. Assumes nothing but what each law states.
use Prim.Native.Nat.{ℕ, ◌+◌, ◌*◌, ◌/◌, ◌≤◌, ◌<◌}
use mathlib.Core.Path.{◌≡◌, refl, ap, sym, ◌∙◌}
use mathlib.Core.Logic.{⊎_elim}
use mathlib.Core.List.{List}
use native.Mathlib.Numerals.{add-one}
use native.Mathlib.Omega.{arith}
use borrow.Author.Tests.{le-leb, lt-leb}
use lib.ListN.{length, drop, set, length-set}
use Rattle.laws.specs.Strip.{over, over_set}
use Rattle.paper.specs.declared.Refusal.TheVariants.{Job as Malformed}
use Rattle.job.specs.Reader.{Reading, refuse, number, section}
use Rattle.paper.specs.declared.Refusal.{Refusal}
use Rattle.paper.specs.Told.{Checked}
use Rattle.laws.specs.Number.{split}
use Rattle.std.specs.Prelude.{Ok, Err}
use Rattle.job.specs.Section.{first_numbers, length_numbers, SectionIs, section_whole, section_cut}

-- ---- a strip with k of the n numbers at its front
pub record Written (part : List ℕ) (n k : ℕ) (before after : List ℕ) : Type 0 where
  pub within : k ≤ n
  pub complete : n ≤ length part / 4
  pub strip : after ≡ over (first_numbers part k) before
  pub same : length after ≡ length before

pub written_none : (part : List ℕ) (n : ℕ) (before : List ℕ) → n ≤ length part / 4 → Written part n 0 before before
unfolding first_numbers over
written_none part n before h = record { within = omega arith; complete = h; strip = refl; same = refl }

module _ {part : List ℕ} {n k : ℕ} {before after : List ℕ} (w : Written part n k before after) where
  pub written_more : (x : ℕ) → k < n → n ≤ length before → x ≡ number part (4 * k) → Written part n (k + 1) before (set after k x)
  unfolding first_numbers
  written_more x h room e =
      let l = length_numbers part k in
      record {
        within = omega arith;
        complete = w.complete;
        strip = rw (w.strip, add-one, e) (over_set (first_numbers part k) before (number part (4 * k)) k (omega arith) (omega arith));
        same = simp length-set w.same;
      }

  pub written_all : (at : ℕ) → n ≤ k → SectionIs part at n before (Ok tt) after
  written_all at h =
      let e : k ≡ n = omega arith in
      record {
        answer = rw (le-leb n (length part / 4) w.complete);
        strip = rw (le-leb n (length part / 4) w.complete) (w.strip ∙ ap (λ (m : ℕ). over (first_numbers part m) before) e);
      }

pub written_cut : (part : List ℕ) (at n : ℕ) (before : List ℕ) → length part / 4 < n →
    SectionIs part at n before (Err (Malformed (at + 4 * (length part / 4)))) before
written_cut part at n before h = record { answer = rw (lt-leb n _ h); strip = rw (lt-leb n _ h) }

-- ---- what a section that was read says: cut or whole
refused_alike : {r q : Refusal} {found : Checked} → found ≡ Err q → found ≡ Err r → q ≡ r
refused_alike e f = cc (sym e ∙ f)

other : (r : Refusal) {u : Unit {0}} → ◌≡◌ {A = Checked} (Err r) (Ok u) → ⊥
other r e = let z : ◌≡◌ {A = ℕ} 0 1 = cc in omega arith

module _ {part : List ℕ} {at n : ℕ} {before : List ℕ} {found : Checked} {after : List ℕ} (s : SectionIs part at n before found after) where
  -- what the answer is, by how many numbers are complete
  if_cut : length part / 4 < n → found ≡ Err (Malformed (at + 4 * (length part / 4)))
  if_cut h = s.answer ∙ rw (lt-leb n (length part / 4) h)

  if_whole : n ≤ length part / 4 → found ≡ Ok tt
  if_whole h = s.answer ∙ rw (le-leb n (length part / 4) h)

  pub whole : {u : Unit {0}} → found ≡ Ok u → n ≤ length part / 4
  whole e = ⊎_elim (λ h. h) (λ h. absurd (other _ (sym (if_cut h) ∙ e))) (split n (length part / 4))

  pub cut : {r : Refusal} → found ≡ Err r → (length part / 4 < n) × (Malformed (at + 4 * (length part / 4)) ≡ r)
  cut e = ⊎_elim (λ h. absurd (other _ (sym e ∙ if_whole h))) (λ h. (h, refused_alike (if_cut h) e)) (split n (length part / 4))

  pub cut_kept : {r : Refusal} → found ≡ Err r → after ≡ before
  cut_kept e = s.strip ∙ rw (lt-leb n (length part / 4) (cut e).0)

  pub whole_written : {u : Unit {0}} → found ≡ Ok u → after ≡ over (first_numbers part n) before
  whole_written e = s.strip ∙ rw (le-leb n (length part / 4) (whole e))

-- and what the definition makes of it
module _ (job : List ℕ) (at : ℕ) {n : ℕ} {before : List ℕ} {found : Checked} {after : List ℕ}
    (s : SectionIs (drop at job) at n before found after) where
  pub cut_refused : {r : Refusal} → found ≡ Err r → (made : List ℕ → Reading) → section job at n made ≡ refuse r
  cut_refused e made = section_cut job at n made (cut s e).0 ∙ ap refuse (cut s e).1

  pub whole_made : {u : Unit {0}} → found ≡ Ok u → (made : List ℕ → Reading) → section job at n made ≡ made (first_numbers (drop at job) n)
  whole_made e made = section_whole job at n made (whole s e)
