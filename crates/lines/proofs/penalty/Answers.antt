use Rattle.paper.specs.Paragraph.{penalty}
use Rattle.lines.proofs.penalty.Goals as goal

pub returns : goal.returns
unfolding penalty
returns c = c.weighed.ensures.0
