-- The numbers of a section, each found by its place: what the section reader writes. The definition takes them one after another, and comes
-- to the same. Assumes nothing but what each law states.
use Rattle.std.specs.Prelude.{ℕ, zero, suc, ◌+◌, ◌*◌, ◌/◌, ◌≤◌, ◌<◌, ◌≡◌, refl, List, [], ◌∷◌, ◌++◌, leb, length, get_or, drop}
use Rattle.std.proofs.Math.Path.{ap}
use Rattle.std.proofs.Common.{sym, ◌∙◌, ⊎_elim, add_assoc, arith, lt-ltb, le-ltb, length-append, get_or-drop}
use Rattle.std.proofs.Math.ListN.{length-drop}
use Rattle.std.specs.Prelude.{Ok, Err}
use Rattle.laws.specs.Number.{if, split}
use Rattle.laws.specs.Strip.{over}
use Rattle.paper.specs.Told.{Checked}
use Rattle.paper.specs.declared.Refusal.TheVariants.{Job as Malformed}
use Rattle.job.specs.Reader.{Reading, refuse, number, numbers, section, counted}

-- the first n numbers of a part
unfoldable pub first_numbers : List ℕ → ℕ → List ℕ
first_numbers part zero = []
first_numbers part (suc k) = first_numbers part k ++ (number part (4 * k) ∷ [])

-- n numbers are asked of a part that begins at the byte `at`: the strip is written only where all are complete, and else the first that is
-- not is refused
pub record SectionIs (part : List ℕ) (at n : ℕ) (before : List ℕ) (found : Checked) (after : List ℕ) : Type 0 where
  pub answer : found ≡ if (leb n (length part / 4)) (Ok tt) (Err (Malformed (at + 4 * (length part / 4))))
  pub strip : after ≡ if (leb n (length part / 4)) (over (first_numbers part n) before) before

number_drop : (part : List ℕ) (a k : ℕ) → number (drop a part) k ≡ number part (a + k)
number_drop part a k = simp (get_or-drop, add_assoc)

pub length_numbers : (part : List ℕ) (n : ℕ) → length (first_numbers part n) ≡ n
unfolding first_numbers
length_numbers part zero = refl
length_numbers part (suc n) = simp length-append (omega (arith, length_numbers part n))

-- the first, then the rest
numbers_cons : (part : List ℕ) (n : ℕ) → first_numbers part (suc n) ≡ number part 0 ∷ first_numbers (drop 4 part) n
unfolding first_numbers
numbers_cons part zero = refl
numbers_cons part (suc n) =
    let e : 4 + 4 * n ≡ 4 * suc n = omega arith in
    rw (number_drop part 4 (4 * n), e) (ap (λ (xs : List ℕ). xs ++ (number part (4 * suc n) ∷ [])) (numbers_cons part n))

-- ---- what the definition comes to
numbers_whole : (at : ℕ) (part : List ℕ) (n : ℕ) (made : List ℕ → Reading) → n ≤ length part / 4 →
    numbers at part n made ≡ made (first_numbers part n)
unfolding numbers first_numbers
numbers_whole at part zero made h = refl
numbers_whole at part (suc n) made h =
    rw (le-ltb (length part) 4 (omega arith), numbers)
    (numbers_whole (at + 4) (drop 4 part) n (λ xs. made (number part 0 ∷ xs)) (omega (arith, length-drop 4 part))
    ∙ ap made (sym (numbers_cons part n)))

numbers_cut : (at : ℕ) (part : List ℕ) (n : ℕ) (made : List ℕ → Reading) → length part / 4 < n →
    numbers at part n made ≡ refuse (Malformed (at + 4 * (length part / 4)))
unfolding numbers
numbers_cut at part zero made h = absurd (omega arith)
numbers_cut at part (suc n) made h =
    ⊎_elim
    (λ g. rw (le-ltb (length part) 4 g, numbers)
    (numbers_cut (at + 4) (drop 4 part) n (λ xs. made (number part 0 ∷ xs)) (omega (arith, length-drop 4 part))
    ∙ ap (λ (a : ℕ). refuse (Malformed a)) (omega (arith, length-drop 4 part))))
    (λ g. rw (lt-ltb (length part) 4 g, numbers) (ap (λ (a : ℕ). refuse (Malformed a)) (omega arith)))
    (split 4 (length part))

-- ---- a section of the job, and a count
module _ (job : List ℕ) (at n : ℕ) (made : List ℕ → Reading) where
  pub section_whole : n ≤ length (drop at job) / 4 → section job at n made ≡ made (first_numbers (drop at job) n)
  unfolding section
  section_whole = numbers_whole at (drop at job) n made

  pub section_cut : length (drop at job) / 4 < n → section job at n made ≡ refuse (Malformed (at + 4 * (length (drop at job) / 4)))
  unfolding section
  section_cut = numbers_cut at (drop at job) n made

module _ (job : List ℕ) (at : ℕ) (made : ℕ → Reading) where
  pub count_whole : at + 4 ≤ length job → counted job at made ≡ made (number job at)
  unfolding counted first_numbers
  count_whole h =
      section_whole job at 1 (λ xs. made (get_or xs 0 0)) (omega (arith, length-drop at job))
      ∙ ap made (number_drop job at 0 ∙ ap (number job) (omega arith))

  pub count_cut : length job < at + 4 → counted job at made ≡ refuse (Malformed at)
  unfolding counted
  count_cut h =
      section_cut job at 1 (λ xs. made (get_or xs 0 0)) (omega (arith, length-drop at job))
      ∙ ap (λ (a : ℕ). refuse (Malformed a)) (omega (arith, length-drop at job))
