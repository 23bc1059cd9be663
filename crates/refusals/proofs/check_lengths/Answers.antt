use Rattle.std.proofs.Common.{sym, refl, ◌∙◌, ne_eqb, arith, ◌+◌}
use Rattle.paper.specs.Allowed.{length_holds}
use Rattle.refusals.proofs.First.{failing_at, failing_never, all_failing}
use Rattle.refusals.proofs.check_lengths.Goals as goal

pub returns-then-all_hold : goal.returns-then-all_hold
returns-then-all_hold c =
    simp (sym (all_failing (length_holds c.args.space) c.args.lengths.now) ∙ sym c.all_hold.ensures ∙ c.if-all_hold.true)

pub returns-in-Some : goal.returns-in-Some
returns-in-Some c =
    let e = failing_at _ (length_holds c.args.space) (λ w. refl) c.args.lengths.now (sym c.first_bad.ensures ∙ c.in-Some.is) in
    simp (e, ne_eqb (c.in-Some.k + 1) 0 (λ z. omega arith))

pub returns-in-None : goal.returns-in-None
returns-in-None c =
    simp (failing_never _ (length_holds c.args.space) (λ w. refl) c.args.lengths.now (sym c.first_bad.ensures ∙ c.in-None.is))
