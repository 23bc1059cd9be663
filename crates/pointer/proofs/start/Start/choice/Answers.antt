use Rattle.std.proofs.Common.{arith}
use Rattle.pointer.proofs.Settles.{choice_none, choice_near, choice_some, choice_small}
use Rattle.pointer.proofs.start.Start.choice.Goals as goal

pub returns-then-b : goal.returns-then-b
returns-then-b c = choice_none c.requires c.if-b.true

pub returns-then-self-r : goal.returns-then-self-r
returns-then-self-r c = choice_near c.requires c.if-self-r.true

pub overflow_add-result : goal.overflow_add-result
overflow_add-result c = omega (arith, choice_small c.requires c.if-b.false c.if-self-r.false c.own.ensures)

pub returns : goal.returns
returns c = choice_some c.requires c.if-b.false c.if-self-r.false c.own.ensures
