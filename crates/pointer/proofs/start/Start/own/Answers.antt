use Rattle.std.proofs.Common.{arith}
use Rattle.pointer.proofs.Gaps.{own_first, own_read}
use Rattle.pointer.proofs.start.Start.own.Goals as goal

pub overflow_sub-self-else-self-eq0 : goal.overflow_sub-self-else-self-eq0
overflow_sub-self-else-self-eq0 c = omega (arith, own_read c.args.self.now c.if-self-eq0.false)

pub returns-then-self-eq0 : goal.returns-then-self-eq0
returns-then-self-eq0 c = own_first c.args.self.now c.if-self-eq0.true

pub returns-else-self-eq0 : goal.returns-else-self-eq0
returns-else-self-eq0 c = omega (arith, c.from.ensures, own_read c.args.self.now c.if-self-eq0.false)
