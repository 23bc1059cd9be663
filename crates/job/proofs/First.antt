-- A job of more than 16,412 bytes is decided by its first 16,413: no job that is read is longer, and every refusal is told by then. So a
-- program may leave the rest of its input out. Assumes nothing but what each law states.
use Prim.Native.Nat.{ℕ, zero, suc, ◌+◌, ◌*◌, ◌/◌, ◌≤◌, ◌<◌}
use Rattle.std.specs.Prelude.{◌≡◌, Bool, true, false, List, ltb, length, get_or, take, drop}
use Rattle.std.proofs.Math.Path.{refl, ap}
use Rattle.std.proofs.Common.{sym, ◌∙◌, arith, length-drop, take_all, get_or-take, get_or-drop}
use Rattle.std.proofs.Math.Logic.{⊎_elim}
use borrow.Author.Tests.{lt-ltb}
use Rattle.std.proofs.Math.ListN.{length-take}
use Rattle.laws.specs.Number.{split, if}
use Rattle.paper.specs.declared.Refusal.TheVariants.{Many, Room}
use Rattle.paper.specs.Allowed.{most_words}
use Rattle.job.specs.declared.JobLimits.{JobLimits}
use Rattle.job.specs.Reader.{Reading, refuse, section, counted, to_end, lengths_from, lengths_after}
use Rattle.job.specs.Reader.{announced, limits_by, limits_from, reading}
use Rattle.job.specs.Section.{first_numbers, section_whole}
use Rattle.job.specs.Bounds.{most_limits, longest}
use Rattle.job.proofs.Bounds.{announced_most}

if_same : {A : Type 0} (b : Bool) (x y z : A) → (b ≡ true → x ≡ y) → if b x z ≡ if b y z
if_same true x y z e = e refl
if_same false x y z e = refl

-- ---- a longer job, and a front of it that has every byte that is read
module _ (job : List ℕ) (room m : ℕ) (long : longest < m) (more : m < length job) where
  byte_first : (at k : ℕ) → at + k < longest → get_or (drop at (take m job)) k 0 ≡ get_or (drop at job) k 0
  byte_first at k h = get_or-drop at (take m job) k 0 ∙ get_or-take m job (at + k) 0 (omega arith) ∙ sym (get_or-drop at job k 0)

  numbers_first : (at n : ℕ) → at + 4 * n ≤ longest → first_numbers (drop at (take m job)) n ≡ first_numbers (drop at job) n
  unfolding first_numbers
  numbers_first at zero h = refl
  numbers_first at (suc n) h =
      let a = 4 * n in
      let byte = byte_first at in
      rw (
        numbers_first at n (omega arith),
        byte a (omega arith),
        byte (a + 1) (omega arith),
        byte (a + 2) (omega arith),
        byte (a + 3) (omega arith),
      )

  section_first : (at n : ℕ) (made other : List ℕ → Reading) → at + 4 * n ≤ longest → ((xs : List ℕ) → made xs ≡ other xs) →
      section (take m job) at n made ≡ section job at n other
  section_first at n made other h same =
      let front : n ≤ length (drop at (take m job)) / 4 = omega (arith, length-drop at (take m job), length-take m job) in
      let whole : n ≤ length (drop at job) / 4 = omega (arith, length-drop at job) in
      section_whole (take m job) at n made front ∙ ap made (numbers_first at n h) ∙ same (first_numbers (drop at job) n)
      ∙ sym (section_whole job at n other whole)

  lengths_first : (limits : JobLimits) (at n : ℕ) → at ≤ 8 + 4 * most_limits →
      lengths_from (take m job) room limits at n ≡ lengths_from job room limits at n
  unfolding lengths_from to_end
  lengths_first limits at n h =
      let left = lt-ltb (at + 4 * n) in
      ⊎_elim
      (λ g. ap (λ (r : Reading). if (ltb most_words n) (refuse Many) (if (ltb room n) (refuse (Room 1)) r))
      (section_first at n _ _ (omega arith) (λ ws.
      rw (left (length (take m job)) (omega (arith, length-take m job)), left (length job) (omega arith)))))
      (λ g. rw (lt-ltb most_words n g))
      (split n most_words)

  after_first : (at : ℕ) (limits : JobLimits) → at ≤ 4 + 4 * most_limits →
      lengths_after (take m job) room at limits ≡ lengths_after job room at limits
  unfolding lengths_after counted
  after_first at limits h = section_first at 1 _ _ (omega arith) (λ xs. lengths_first limits (at + 4) (get_or xs 0 0) (omega arith))

  limits_first : (count : ℕ) → limits_from (take m job) room count ≡ limits_from job room count
  unfolding limits_from
  limits_first count =
      if_same (announced count) _ _ _ (λ f. section_first 4 count _ _ (omega (arith, announced_most count f)) (λ l.
      after_first (4 + 4 * count) (limits_by count l) (omega (arith, announced_most count f))))

  front_first : reading (take m job) room ≡ reading job room
  unfolding reading counted
  front_first = section_first 0 1 _ _ (omega arith) (λ xs. limits_first (get_or xs 0 0))

-- Any front of more than 16,412 bytes is read as the whole job is.
pub reading_first : (job : List ℕ) (room m : ℕ) → longest < m → reading (take m job) room ≡ reading job room
reading_first job room m long =
    ⊎_elim (λ h. ap (λ (j : List ℕ). reading j room) (take_all m job h)) (λ h. front_first job room m long h) (split (length job) m)
