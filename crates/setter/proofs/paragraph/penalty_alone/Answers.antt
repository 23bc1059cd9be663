use Rattle.std.proofs.Common.{ℕ, ap, sym, ◌∙◌, ltb-true, ltb-false, arith, Ok, Some}
use Rattle.laws.specs.Outcome.{answers}
use Rattle.paper_theory.specs.Alone.{alone_limits, alone_length, alone_short, alone_long, alone_inside}
use Rattle.paper_theory.specs.Ranges.{ranges}
use Rattle.setter.proofs.paragraph.penalty_alone.Goals as goal
use Rattle.setter.proofs.paragraph.penalty_alone.Goals.{then-length-l-via-then-length-l, then-length-l-via-else-length-l+then-l-length}

pub returns-then-not-hold : goal.returns-then-not-hold
returns-then-not-hold c = answers (sym (alone_limits _ _ (sym c.hold.ensures ∙ c.if-not-hold.true)))

pub returns-then-length-gt-MOST_ALONE : goal.returns-then-length-gt-MOST_ALONE
returns-then-length-gt-MOST_ALONE c =
    answers (sym (alone_length _ _ (sym c.hold.ensures ∙ c.if-not-hold.false) (omega arith)))

pub returns-then-length-l : goal.returns-then-length-l
returns-then-length-l c =
    let holds = sym c.hold.ensures ∙ c.if-not-hold.false in
    answers
    (sym
    (elim c.then-length-l.branch [
      | then-length-l-via-then-length-l w ↦ alone_short _ _ holds w.if-length-l.true
      | then-length-l-via-else-length-l+then-l-length w ↦
          alone_long _ _ holds c.if-length-gt-MOST_ALONE.false (ltb-true _ _ w.if-l-length.true-raw)
    ]))

pub penalty-requires : goal.penalty-requires
penalty-requires c = (
  ranges _ (rw (sym c.hold.ensures ∙ c.if-not-hold.false) tt),
  (c.if-length-l.false, ltb-false _ _ c.if-l-length.false-raw),
)

pub returns : goal.returns
returns c =
    let holds = sym c.hold.ensures ∙ c.if-not-hold.false in
    answers
    (ap (λ (p : ℕ). Ok (Some p)) c.penalty.ensures
    ∙ sym (alone_inside _ _ holds c.if-length-l.false (ltb-false _ _ c.if-l-length.false-raw)))
