-- The answers of the reader's parts, from what the section reader left. Assumes nothing but what each law states.
use Prim.Native.Nat.{ℕ, ◌+◌, ◌*◌, ◌≤◌, ◌<◌}
use mathlib.Core.Path.{◌≡◌, refl, sym, ◌∙◌}
use mathlib.Core.Logic.{⊎_elim}
use mathlib.Core.Bool.{true, false}
use mathlib.Core.List.{List}
use native.Mathlib.Omega.{arith}
use borrow.Author.Tests.{le-ltb, lt-ltb}
use lib.ListN.{length, get_or, drop, replicate, length-drop, length-replicate, get_or-replicate, get_or-eq_default}
use Rattle.laws.specs.Number.{split}
use Rattle.laws.specs.Strip.{over, over_front, over_past}
use Rattle.laws.specs.Outcome.{Promise, Is}
use Rattle.paper.specs.Allowed.{most_words}
use Rattle.paper.specs.declared.Refusal.{Refusal}
use Rattle.paper.specs.declared.Refusal.TheVariants.{Many, Room, Job as Malformed}
use Rattle.job.specs.declared.JobLimits.{JobLimits}
use Rattle.std.specs.Prelude.{Ok, Err}
use Rattle.paper.specs.Told.{Checked}
use Rattle.job.specs.Reader.{Reading, refuse, accept, read_as, reading_outcome, section, to_end, lengths_from, lengths_after}
use Rattle.job.specs.Reader.{announced, asked_by, limits_by, limits_from}
use Rattle.job.specs.Section.{first_numbers, SectionIs, section_whole}
use Rattle.job.proofs.Sections.{cut_refused, whole_written, whole_made}

pub refused : {o : Reading} {r : Refusal} {s t : List ℕ} → o ≡ refuse r → t ≡ s → Promise Is (reading_outcome o s) (Err r) t
unfolding reading_outcome
refused e f = rw e (record { tells = refl; strips = f })

pub accepted : (s : List ℕ) {o : Reading} {limits : JobLimits} {ws t : List ℕ} {n : ℕ} → o ≡ accept limits ws → n ≡ length ws →
    t ≡ over ws s → Promise Is (reading_outcome o s) (read_as limits n) t
unfolding reading_outcome
accepted s e f g = rw (e, f) (record { tells = refl; strips = g })

-- ---- the lengths
module _ (job : List ℕ) (room : ℕ) (limits : JobLimits) (at n : ℕ) where
  pub lengths_many : most_words < n → lengths_from job room limits at n ≡ refuse Many
  unfolding lengths_from
  lengths_many h = rw (lt-ltb most_words n h)

  module _ (few : n ≤ most_words) where
    pub lengths_room : room < n → lengths_from job room limits at n ≡ refuse (Room 1)
    unfolding lengths_from
    lengths_room h = rw (le-ltb most_words n few, lt-ltb room n h)

    module _ (fits : n ≤ room) where
      taken : lengths_from job room limits at n ≡ section job at n (λ ws. to_end job (at + 4 * n) (accept limits ws))
      unfolding lengths_from
      taken = rw (le-ltb most_words n few, le-ltb room n fits)

      pub lengths_left : at + 4 * n < length job → lengths_from job room limits at n ≡ refuse (Malformed (at + 4 * n))
      unfolding to_end
      lengths_left h = taken ∙ section_whole job at n _ (omega (arith, length-drop at job)) ∙ rw (lt-ltb (at + 4 * n) (length job) h)

      module _ {before : List ℕ} {found : Checked} {after : List ℕ} (s : SectionIs (drop at job) at n before found after) where
        pub lengths_cut : {r : Refusal} → found ≡ Err r → lengths_from job room limits at n ≡ refuse r
        lengths_cut e = taken ∙ cut_refused job at s e _

        pub lengths_whole : {u : Unit {0}} → found ≡ Ok u → length job ≤ at + 4 * n →
            lengths_from job room limits at n ≡ accept limits (first_numbers (drop at job) n)
        unfolding to_end
        lengths_whole e end = taken ∙ whole_made job at s e _ ∙ rw (le-ltb (at + 4 * n) (length job) end)

-- ---- the limits
-- what stands past the limits in a strip of zeros is as if nothing stood there
over_zeros : (xs : List ℕ) (n k : ℕ) → get_or (over xs (replicate n 0)) k 0 ≡ get_or xs k 0
over_zeros xs n k =
    ⊎_elim
    (λ h. over_past xs (replicate n 0) k 0 h ∙ zero_at ∙ sym (get_or-eq_default xs 0 {n = k} h))
    (λ h. over_front xs (replicate n 0) k 0 h)
    (split (length xs) k)
  where
    zero_at : ◌≡◌ {A = ℕ} (get_or (replicate n 0) k 0) 0
    zero_at =
        ⊎_elim
        (λ g. get_or-eq_default (replicate n 0) 0 {n = k} (omega (arith, length-replicate {A = ℕ} n 0)))
        (λ g. get_or-replicate n k 0 0 g)
        (split n k)

module _ (job : List ℕ) (room count : ℕ) where
  pub limits_unknown : announced count ≡ false → limits_from job room count ≡ refuse (Malformed 0)
  unfolding limits_from
  limits_unknown e = rw e

  module _ (e : announced count ≡ true) (n : ℕ) {found : Checked} {after : List ℕ}
      (s : SectionIs (drop 4 job) 4 count (replicate n 0) found after) where
    pub limits_cut : {r : Refusal} → found ≡ Err r → limits_from job room count ≡ refuse r
    unfolding limits_from
    limits_cut f = rw e (cut_refused job 4 s f _)

    pub limits_whole : {u : Unit {0}} → found ≡ Ok u →
        limits_from job room count ≡ lengths_after job room (4 + 4 * count) (limits_by count after)
    unfolding limits_from asked_by
    limits_whole f = rw (e, whole_written s f) (whole_made job 4 s f _ ∙ simp (over_zeros (first_numbers (drop 4 job) count) n))
