use Rattle.std.proofs.lemmas.Result.{err_from_is_err_and}
use Rattle.paper.specs.Strips.{paragraph_checked, paragraph_outcome}
use Rattle.setter.proofs.Keeping.{found_is, refusal_kept, setting_kept, paragraph_passes}
use Rattle.setter.proofs.paragraph.set_paragraph.Goals as goal

pub returns-in_err-check : goal.returns-in_err-check
unfolding paragraph_outcome paragraph_checked
returns-in_err-check c =
    let p = err_from_is_err_and c.from_residual.result c.from_residual.ensures.1 in
    rw (p.1, p.2) (refusal_kept _ _ _ _ _ c.check.ensures _ _ c.in_err-check.was)

pub set-requires : goal.set-requires
set-requires c = paragraph_passes _ _ _ (found_is _ _ _ _ _ c.check.ensures c.in_ok-check.was)

pub returns : goal.returns
unfolding paragraph_outcome paragraph_checked
returns c =
    setting_kept _ _ _ _ _ c.check.ensures _ _ c.in_ok-check.was c.set.ensures.tells c.set.ensures.strips
