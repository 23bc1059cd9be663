-- A setter's checks in turn, as `check` makes them. Assumes nothing but what each law states.
use Prim.Native.Nat.{ℕ}
use mathlib.Core.Path.{◌≡◌, refl, sym, ◌∙◌}
use mathlib.Core.Bool.{Bool, true, false, not}
use mathlib.Core.List.{List}
use lib.ListN.{length}
use Rattle.laws.specs.Number.{if}
use Rattle.paper.specs.declared.Refusal.{Refusal}
use Rattle.paper.specs.declared.Refusal.TheVariants.{Limits as BadLimits}
use Rattle.paper.specs.Told.{Checked}
use Rattle.std.specs.Prelude.{Ok, Err}
use Rattle.paper.specs.Allowed.{most_words, length_holds}
use Rattle.paper.specs.Told.{first_failing, unless, itself, setter_checks, checked}
use Rattle.refusals.specs.Checks.{words_found, lengths_found, room_found, in_turn}

-- what the checks come to after EMPTY and MANY
rest : Bool → Checked → Checked → Checked
rest hold found room = if (not hold) (Err BadLimits) (unless Err found (unless Err room (Ok tt)))

module _ (hold : Bool) (space : ℕ) (ws has needs : List ℕ) {words : Checked} (w : words ≡ words_found most_words (length ws)) where
  turns : checked hold space ws has needs
      ≡ unless Err words (rest hold (lengths_found (first_failing (length_holds space) 1 ws)) (room_found has needs))
  unfolding checked rest
  turns = in_turn itself Err (setter_checks hold space ws has needs) (Ok tt) ∙ (rw w)

  pub words_refuse : {r : Refusal} → words ≡ Err r → Err r ≡ checked hold space ws has needs
  words_refuse e = sym (turns ∙ (rw e))

  module _ (a : words ≡ Ok tt) where
    pub limits_refuse : hold ≡ false → Err BadLimits ≡ checked hold space ws has needs
    unfolding rest
    limits_refuse h = sym (turns ∙ (rw (a, h)))

    module _ (h : hold ≡ true) {found : Checked} (f : found ≡ lengths_found (first_failing (length_holds space) 1 ws)) where
      pub lengths_refuse : {r : Refusal} → found ≡ Err r → Err r ≡ checked hold space ws has needs
      unfolding rest
      lengths_refuse e = sym (turns ∙ (rw (a, h, ← f, e)))

      pub room_decides : found ≡ Ok tt → {room : Checked} → room ≡ room_found has needs → room ≡ checked hold space ws has needs
      unfolding rest
      room_decides e g = g ∙ sym (turns ∙ (rw (a, h, ← f, e) (last (room_found has needs))))
        where
          last : (c : Checked) → unless Err c (Ok tt) ≡ c
          last (Err r) = refl
          last (Ok tt) = refl
