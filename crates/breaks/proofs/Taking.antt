-- What a start takes, in the values that the code has at hand: where the words before the start have that sum, and its rest is at least the
-- space. Assumes nothing but what each law states.
use Rattle.std.proofs.Common.{◌≡◌, sym, ℕ, ◌+◌, ◌-◌, ◌^◌, ◌≤◌, ◌<◌, List, length, get_or, arith}
use Rattle.std.proofs.lemmas.Bool.Decides.{nat_tests}
use Rattle.laws.specs.Cost.{none, some}
use Rattle.paper.specs.declared.Limits.{Limits}
use Rattle.paper.specs.QueueRules.{Text, by_rest, front_best, front_next, taken_best, taken_next}
use Rattle.paper.specs.Strips.{best_entry}
use Rattle.paper_theory.specs.Ranges.{Ranges}
use Rattle.lines.specs.Held.{text_in}
use Rattle.breaks.specs.Choosing.{taken_at}

module _ {l : Limits} (r : Ranges l) (E B : List ℕ) (sum i : ℕ) (early : i < length E)
    (long : sum + l.space ≤ get_or E (length E - 1) 0) (q : List ℕ) where
  abbrev e : ℕ
  e = get_or E (length E - 1) 0

  abbrev goal : ℕ
  goal = sum + l.space + l.lopt

  abbrev t : Text
  t = text_in l E B (sum + l.space)

  numbers : {A C : Type 0} (f : A → C) (x y z : A) → f (by_rest t.lines i x y z) ≡ taken_at l sum goal e (f x) (f y) (f z)
  unfolding text_in
  numbers f x y z = grind (arith, nat_tests)

  pub taken_numbers : {c n : ℕ} → c ≡ best_entry (front_best t i q) → n ≡ length E →
      (taken_at l sum goal e (2 ^ 64 - 1) 0 c ≡ best_entry (taken_best t i q))
      × (taken_at l sum goal e 0 n (front_next q) ≡ taken_next t i q)
  unfolding taken_best taken_next best_entry text_in
  taken_numbers f g = (
    rw f (sym (numbers best_entry none (some 0) (front_best t i q))),
    rw g (sym (numbers (λ k. k) 0 (length E) (front_next q))),
  )
