use Rattle.std.proofs.Common.{refl, sym, ◌∙◌, arith}
use borrow.Author.Tests.{not-true, not-false}
use Rattle.std.proofs.lemmas.Result.{err_from_is_err_and}
use Rattle.laws.specs.Strip.{lent_is}
use Rattle.job.proofs.Bounds.{announced_most}
use Rattle.job.proofs.Answers.{refused, limits_unknown, limits_cut, limits_whole}
use Rattle.job.proofs.limits_from.Goals as goal

pub returns-then-not-announced : goal.returns-then-not-announced
returns-then-not-announced c =
    refused (limits_unknown _ _ _ (sym c.announced.ensures ∙ not-true c.announced.result c.if-not-announced.true-raw)) refl

pub section-requires-clause-room : goal.section-requires-clause-room
section-requires-clause-room c =
    omega (
      arith,
      announced_most c.args.count
          (sym c.announced.ensures ∙ not-false c.announced.result c.if-not-announced.false-raw),
    )

pub returns-in_err-section : goal.returns-in_err-section
returns-in_err-section c =
    let known = sym c.announced.ensures ∙ not-false c.announced.result c.if-not-announced.false-raw in
    let read = rw (lent_is c.args.job.now 4) at c.section.ensures in
    let p = err_from_is_err_and c.from_residual.result c.from_residual.ensures.1 in
    rw (p.1, p.2) (refused (limits_cut _ _ _ known 5 read c.in_err-section.was) refl)

pub returns : goal.returns
returns c =
    let known = sym c.announced.ensures ∙ not-false c.announced.result c.if-not-announced.false-raw in
    let read = rw (lent_is c.args.job.now 4) at c.section.ensures in
    rw (limits_whole _ _ _ known 5 read c.in_ok-section.was, ← c.asked_by.ensures)
    c.lengths_after.ensures
