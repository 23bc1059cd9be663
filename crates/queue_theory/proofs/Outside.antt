-- W-204, of the paragraph: no length to which the queue rules apply the formula is outside the measure. Assumes nothing but what it states.
use Rattle.std.specs.Prelude.{ℕ, ◌≤◌, ◌≡◌, List, length}
use Rattle.laws.specs.Members.{Every, every_map}
use Rattle.laws.specs.Number.{is_true}
use Rattle.paper.specs.declared.Limits.{Limits}
use Rattle.std.specs.Prelude.{Ok, Some}
use Rattle.paper.specs.Allowed.{limits_hold, ParagraphPassed}
use Rattle.paper.specs.Lines.{Inside}
use Rattle.paper.specs.Paragraph.{penalty}
use Rattle.paper.specs.Applied.{applied}
use Rattle.paper.specs.Told.{penalty_alone}
use Rattle.paper_theory.specs.Alone.{alone_inside}
use Rattle.queue_theory.proofs.Paragraph.{inside_the_measure}

module _ (l : Limits) (ws : List ℕ) (passed : ParagraphPassed l ws) where
  module _ (i : ℕ) (start : 1 ≤ i) (early : i ≤ length ws) where
    -- "The breaker never meets "outside" where the queue rules apply the formula": asked for alone, each is given its number.
    pub never_outside : Every (λ (x : ℕ). penalty_alone l x ≡ Ok (Some (penalty l x))) (applied l ws i)
    never_outside =
        every_map (Inside l.lmin l.lmax) (λ (x : ℕ). penalty_alone l x ≡ Ok (Some (penalty l x)))
        (λ x h. alone_inside l x (is_true (limits_hold l) passed.limits) h.0 h.1) (applied l ws i)
        (inside_the_measure l ws passed i start early)
