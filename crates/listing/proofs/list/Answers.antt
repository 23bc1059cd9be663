use Rattle.std.proofs.Common.{sym, ◌∙◌, length-take-le}
use Rattle.job.specs.Promise.{told_job}
use Rattle.job.proofs.Bounds.{read_within}
use Rattle.listing.proofs.Answers.{told_row, unread_listed, read_listed}
use Rattle.listing.proofs.list.Goals as goal

pub returns-in_default : goal.returns-in_default
unfolding told_job
returns-in_default c =
    rw (unread_listed _ c.read-answer.ensures c.in_default.is ∙ told_row _ (rw c.in_default.is at c.told_job.ensures)) c.whole.ensures

pub slice_bounds-lengths-end : goal.slice_bounds-lengths-end
slice_bounds-lengths-end c = read_within _ _ c.read-answer.ensures c.in-Ok.is

pub slice_bounds-list_asked-end : goal.slice_bounds-list_asked-end
slice_bounds-list_asked-end c = sym (length-take-le _ _ (read_within _ _ c.read-answer.ensures c.in-Ok.is))

pub returns : goal.returns
returns c = rw (read_listed _ c.read-answer.ensures c.in-Ok.is) c.list_asked.ensures
