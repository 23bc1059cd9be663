use Rattle.job.proofs.Sections.{written_none, written_more, written_all, written_cut}
use Rattle.job.proofs.section.Goals as goal

pub returns-then-complete-n : goal.returns-then-complete-n
returns-then-complete-n c = written_cut _ _ _ _ c.if-complete-n.true

pub loop-k-init : goal.loop-k-init
loop-k-init c = written_none _ _ _ c.if-complete-n.false

pub loop-k-preserved : goal.loop-k-preserved
loop-k-preserved c =
    written_more c.loop-k.invariant c.number.result c.loop-k-test.true c.requires.room
    c.number.ensures

pub returns : goal.returns
returns c = written_all c.loop-k.invariant _ c.loop-k-test.false
