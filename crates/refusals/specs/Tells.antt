-- What the code tells of a refusal. Assumes nothing.
use Rattle.std.specs.Prelude.{ℕ, ◌≡◌}
use Rattle.paper.specs.declared.Refusal.{Refusal}
use Rattle.paper.specs.Told.{told_refusal}
use Rattle.refusals.specs.declared.Reason.{Reason}

-- a refusal's number and place
pub record Tells (number place : ℕ) (r : Reason) : Type 0 where
  pub is_number : r.number ≡ number
  pub is_place : r.place ≡ place

-- the table's of that refusal
abbrev pub TellsOf : Refusal → Reason → Type 0
TellsOf r = Tells (told_refusal r).number (told_refusal r).place
