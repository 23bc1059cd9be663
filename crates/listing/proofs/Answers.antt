-- What the answers of the reader and of the setters come to in a listing. Assumes nothing but what each law states.
use Prim.Native.Nat.{ℕ, suc, ◌+◌, ◌≤◌}
use mathlib.Core.Path.{◌≡◌, refl, ap, sym, ◌∙◌}
use mathlib.Core.Logic.{⊎_elim}
use mathlib.Core.Bool.{Bool}
use mathlib.Core.List.{List, [], ◌∷◌}
use native.Mathlib.Omega.{arith}
use borrow.Author.Tests.{lt-ltb, le-leb}
use lib.Dec.{leb}
use lib.ListN.{length, take, drop, replicate, length-replicate}
use lib.Seq.{take_at}
use Rattle.laws.specs.Number.{split, when_true}
use Rattle.laws.specs.Cost.{Cost, none, some}
use Rattle.laws.specs.Strip.{over, length_over}
use Rattle.laws.specs.Outcome.{Promise, Is}
use Rattle.paper.specs.declared.Refusal.{Refusal}
use Rattle.paper.specs.Told.{Answer, set_answer, none_answer, refused_answer}
use Rattle.paper.specs.Told.{Checked}
use Rattle.std.specs.Prelude.{Ok, Err}
use Rattle.paper.specs.Allowed.{most_words}
use Rattle.paper.specs.Told.{told_refusal, checked, first_short}
use Rattle.paper.specs.Strips.{sums}
use Rattle.refusals.specs.declared.Reason.{Reason}
use Rattle.refusals.specs.Tells.{Tells}
use Rattle.refusals.specs.Accepted.{accepted}
use Rattle.strips.specs.Words.{length_sums}
use Rattle.job.specs.declared.Asked.{Asked}
use Rattle.job.specs.declared.JobLimits.{JobLimits}
use Rattle.job.specs.Reader.{JobAnswer, read_as}
use Rattle.job.specs.Reader as Reader
use Rattle.job.specs.Reader.{Reading, refuse, accept, reading, read_outcome}
use Rattle.job.specs.Promise.{accepted_writes}
use Rattle.listing.specs.Listing.{refused, refusal, holds, space_in, least, starts, move_count}
use Rattle.listing.specs.Listing.{cost_listing, checked_listing, asked_listing, reading_listing, listing_of}
use Rattle.listing.specs.Asks.{IsSet, Answered}
use Rattle.listing.proofs.Settings.{set_is}
use Rattle.listing.proofs.Size.{set_size}

-- what stands at the front of a strip that was written
front_is : (xs s t : List ℕ) (k : ℕ) → t ≡ over xs s → length xs ≡ k → take k t ≡ xs
unfolding over
front_is xs s t k e h = ap (take k) e ∙ take_at xs (drop (length xs) s) k h

-- the row of a refusal, by what is told of it
pub told_row : (q : Refusal) {why : Reason} → Tells (told_refusal q).number (told_refusal q).place why →
    refusal q ≡ refused why.number why.place
unfolding refusal
told_row q t = rw (t.is_number, t.is_place)

-- ---- the reader, which is lent a strip for as many lengths as there may be
module _ (job : List ℕ) {r : JobAnswer} {t : List ℕ} (p : Promise Is (read_outcome job (replicate 4096 0)) r t) where
  size : length {A = ℕ} (replicate 4096 0) ≡ most_words
  size = length-replicate {A = ℕ} 4096 0

  pub unread_listed : {q : Refusal} → r ≡ Err q → listing_of job ≡ refusal q
  unfolding listing_of read_outcome Reader.reading_outcome reading_listing
  unread_listed {q} e = rw (← size) (go (reading job (length {A = ℕ} (replicate 4096 0))) (sym e ∙ p.tells))
    where
      go : (o : Reading) → ◌≡◌ {A = JobAnswer} (Err q) ((Reader.reading_outcome o (replicate 4096 0)).answer) →
          reading_listing o ≡ refusal q
      go (refuse q') f = let z : q ≡ q' = cc in rw z
      go (accept limits ws) f = let z : ◌≡◌ {A = ℕ} 0 1 = cc in absurd (omega arith)

  pub read_listed : {limits : JobLimits} {n : ℕ} → r ≡ read_as limits n → listing_of job ≡ asked_listing limits.asked (take n t)
  unfolding listing_of read_outcome reading_listing
  read_listed {limits} {n} e =
      let s : List ℕ = replicate 4096 0 in
      let a = accepted_writes (reading job (length s)) s p e in
      ap reading_listing
      (ap (reading job) (sym size) ∙ a.is ∙ ap (accept limits) (sym (front_is a.lengths s t n a.written (sym a.count))))

-- ---- a setter, which is lent strips that are long enough for every text
-- where no strip is too short for a text that is not MANY, the checks are those of 1 to 4
all_long : (hold : Bool) (space : ℕ) (ws has needs : List ℕ) → (length ws ≤ most_words → first_short 1 has needs ≡ 0) →
    checked hold space ws has needs ≡ checked hold space ws [] []
unfolding checked first_short
all_long hold space ws has needs room = ⊎_elim (λ h. rw (room h)) (λ h. rw (lt-ltb most_words (length ws) h)) (split (length ws) most_words)

-- each strip has what it needs
abbrev pub ListRoom : List ℕ → List ℕ → Type 0
ListRoom [] ns = Unit {0}
ListRoom (h ∷ hs) [] = Unit {0}
ListRoom (h ∷ hs) (n ∷ ns) = (n ≤ h) × ListRoom hs ns

roomy : (k : ℕ) (has needs : List ℕ) → ListRoom has needs → first_short k has needs ≡ 0
unfolding first_short
roomy k [] ns r = refl
roomy k (h ∷ hs) [] r = refl
roomy k (h ∷ hs) (n ∷ ns) r = when_true (leb n h) _ _ (le-leb n h r.0) ∙ roomy (suc k) hs ns r.1

-- the sums and the answer strip, before and after a setting
module _ (asked : Asked) (ws s p S P : List ℕ) (sums_room : most_words + 1 ≤ length s) (starts_room : most_words ≤ length p) where
  set : (v : ℕ) → checked (holds asked) (space_in asked) ws [] [] ≡ Ok tt → least asked ws ≡ some v → S ≡ over (sums ws) s →
      P ≡ over (starts asked ws) p →
      IsSet asked ws S P v (length (starts asked ws)) (move_count asked ws)
  unfolding asked_listing checked_listing cost_listing
  set v pass cost sums_over starts_over =
      let passed = (accepted (holds asked) (space_in asked) ws [] [] pass).passed in
      let is = set_is asked ws passed v cost in
      let n = length_sums ws in
      let sums_are = front_is (sums ws) s S (length ws + 1) sums_over n in
      let starts_are = front_is (starts asked ws) p P (length (starts asked ws)) starts_over refl in
      record {
        sums_room = omega (arith, ap length sums_over, length_over (sums ws) s (omega (arith, passed.few)), passed.few);
        starts_room = omega (arith, ap length starts_over, length_over (starts asked ws) p (omega (arith, passed.few, is.few)));
        text = rw sums_are (record { passed = passed; sums = refl });
        asks = rw starts_are (record { starts = is.all; room = record { fits = omega (arith, set_size asked ws passed v is) } });
        listing = rw (starts_are, pass, cost);
      }

-- What a setter promises: an answer and strips, as the checks and the least total decide. The strips are of any type, with the sums and the
-- answer strip among them.
module _ {Strips : Type 0} (asked : Asked) (ws : List ℕ) (sums_of starts_of : Strips → List ℕ) (lent : Strips) (has needs : List ℕ)
    (answer : Checked → Answer) (strips : Checked → Strips) (cost_answer : Cost → Answer)
    (refuses : (r : Refusal) → answer (Err r) ≡ refused_answer r) (accepts : answer (Ok tt) ≡ cost_answer (least asked ws))
    (none_is : cost_answer none ≡ none_answer (move_count asked ws))
    (some_is : (v : ℕ) → cost_answer (some v) ≡ set_answer v (length (starts asked ws)) (move_count asked ws))
    (sums_over : (v : ℕ) → least asked ws ≡ some v → sums_of (strips (Ok tt)) ≡ over (sums ws) (sums_of lent))
    (starts_over : (v : ℕ) → least asked ws ≡ some v → starts_of (strips (Ok tt)) ≡ over (starts asked ws) (starts_of lent))
    (sums_room : most_words + 1 ≤ length (sums_of lent)) (starts_room : most_words ≤ length (starts_of lent))
    (room : length ws ≤ most_words → ListRoom has needs) where
  at_cost : checked (holds asked) (space_in asked) ws [] [] ≡ Ok tt → (b : Cost) → least asked ws ≡ b →
      Answered asked ws (sums_of (strips (Ok tt))) (starts_of (strips (Ok tt))) (cost_answer b)
  unfolding asked_listing checked_listing cost_listing
  at_cost g none h = rw (none_is, g, h)
  at_cost g (some v) h = rw (some_is v) (set asked ws _ _ _ _ sums_room starts_room v g h (sums_over v h) (starts_over v h))

  at_checked : (c : Checked) → checked (holds asked) (space_in asked) ws [] [] ≡ c →
      Answered asked ws (sums_of (strips c)) (starts_of (strips c)) (answer c)
  unfolding asked_listing checked_listing
  at_checked (Err r) g = rw (refuses r, g)
  at_checked (Ok tt) g = rw accepts (at_cost g (least asked ws) refl)

  pub answered : {a : Answer} {t : Strips} →
      a ≡ answer (checked (holds asked) (space_in asked) ws has needs) → t ≡ strips (checked (holds asked) (space_in asked) ws has needs) →
      Answered asked ws (sums_of t) (starts_of t) a
  answered e f =
      let long = all_long (holds asked) (space_in asked) ws has needs (λ h. roomy 1 has needs (room h)) in
      rw (e ∙ ap answer long, f ∙ ap strips long) (at_checked (checked (holds asked) (space_in asked) ws [] []) refl)
