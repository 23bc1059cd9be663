-- What crosses. Assumes nothing.
use mathlib.Core.Path.{◌≡◌, refl, ap, ◌∙◌}
use Rattle.laws.specs.Outcome.{Outcome, Promise, Answers}
use Rattle.paper.specs.declared.Refusal.{Refusal}
use Rattle.paper.specs.declared.Refusal.TheVariants.{Empty, Many, Limits, Length, Room, Job}
use Rattle.paper.specs.Told.{Answer}
use Rattle.paper.specs.Told.{told, told_refusal, refused_at}
use Rattle.capi.specs.declared.Numbers.{Numbers}
use Rattle.capi.specs.Promise.{in_numbers, NumbersPromise}

-- Of a refusal no more is told than its number and place.
pub number_and_place : (r : Refusal) → told_refusal r ≡ refused_at (told_refusal r).number (told_refusal r).place
unfolding told_refusal
number_and_place Empty = refl
number_and_place Many = refl
number_and_place Limits = refl
number_and_place (Length word) = refl
number_and_place (Room strip) = refl
number_and_place (Job offset) = refl

-- The setter's promise, with its answer in numbers.
pub crossed : {S : Type 0} {o : Outcome Answer S} {a : Answer} {exit : S} {r : Numbers} →
    Promise (Answers told) o a exit → r ≡ in_numbers (told a) → NumbersPromise o r exit
crossed p e = record { tells = e ∙ ap in_numbers p.tells.tells; strips = p.strips }
