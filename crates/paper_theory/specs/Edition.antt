-- W-205: "Edition 2 with lastmin 0 equals edition 1." Assumes nothing.
use Rattle.std.specs.Prelude.{ℕ, ◌≡◌, List}
use Rattle.std.proofs.Math.Path.{refl}
use Rattle.paper.specs.declared.Limits.{Limits}
use Rattle.paper.specs.Allowed.{edition_limits, last_holds, limits_hold}
use Rattle.paper.specs.Paragraph as Paragraph
use Rattle.paper.specs.Paragraph.{line_length, penalty, least_last, lines}
use Rattle.paper.specs.QueueRules.{text_of, queue_moves}
use Rattle.paper.specs.Told.{penalty_alone}
use Rattle.paper.specs.Strips.{ParagraphStrips, paragraph_written, paragraph_set, paragraph_checked, paragraph_outcome}

module _ (lmin lopt lmax a space : ℕ) where
  abbrev first : Limits
  first = edition_limits lmin lopt lmax a space 1 0

  abbrev second : Limits
  second = edition_limits lmin lopt lmax a space 2 0

  -- the limits hold under both or under neither
  pub edition_limits_lem : limits_hold second ≡ limits_hold first
  unfolding limits_hold last_holds
  edition_limits_lem = refl

  -- the answer and every strip are the same, refusals and NONE too
  pub edition_outcome : (ws : List ℕ) (s : ParagraphStrips) → paragraph_outcome second ws s ≡ paragraph_outcome first ws s
  unfolding paragraph_outcome paragraph_checked paragraph_set paragraph_written limits_hold last_holds Paragraph.best Paragraph.chosen_next
      Paragraph.breaks queue_moves text_of lines line_length penalty least_last
  edition_outcome ws s = refl

  -- and so is the penalty asked for alone
  pub edition_penalty : (x : ℕ) → penalty_alone second x ≡ penalty_alone first x
  unfolding penalty_alone limits_hold last_holds penalty
  edition_penalty x = refl
