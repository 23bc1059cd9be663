use Rattle.pointer.proofs.Lowers.{jump_none, jump_near, jump_on}
use Rattle.pointer.proofs.start.Start.jump.Goals as goal

pub returns-then-to-eq0 : goal.returns-then-to-eq0
returns-then-to-eq0 c = jump_none c.requires c.if-to-eq0.true

pub returns-then-self-to : goal.returns-then-self-to
returns-then-self-to c = jump_near c.requires c.if-to-eq0.false c.if-self-to.true

pub returns : goal.returns
returns c = jump_on c.requires c.if-to-eq0.false c.if-self-to.false
