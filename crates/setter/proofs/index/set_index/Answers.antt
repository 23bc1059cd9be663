use Rattle.std.proofs.Common.{ap}
use Rattle.std.proofs.lemmas.Result.{err_from_is_err_and}
use Rattle.paper.specs.Strips.{IndexOutcome, index_checked, index_outcome}
use Rattle.setter.proofs.Keeping.{found_is, refusal_kept, setting_kept, index_passes}
use Rattle.setter.proofs.index.set_index.Goals as goal

pub returns-in_err-check : goal.returns-in_err-check
unfolding index_outcome index_checked
returns-in_err-check c =
    let p = err_from_is_err_and c.from_residual.result c.from_residual.ensures.1 in
    rw (p.1, p.2) (refusal_kept _ _ _ _ _ c.check.ensures _ _ c.in_err-check.was)

pub page-requires : goal.page-requires
page-requires c = index_passes _ _ _ (found_is _ _ _ _ _ c.check.ensures c.in_ok-check.was)

pub returns : goal.returns
unfolding index_outcome index_checked
returns c =
    setting_kept _ _ _ _ _ c.check.ensures _ _ c.in_ok-check.was
    (ap (λ (o : IndexOutcome). o.answer) c.page.ensures) (ap (λ (o : IndexOutcome). o.strips) c.page.ensures)
