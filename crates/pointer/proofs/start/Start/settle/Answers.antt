use Rattle.std.proofs.Common.{arith}
use Rattle.pointer.proofs.Gaps.{start_few}
use Rattle.pointer.proofs.Settles.{settle_some, settle_none}
use Rattle.pointer.proofs.start.Start.settle.Goals as goal

pub returns-in_default : goal.returns-in_default
returns-in_default c = settle_none c.in_default.ensures

pub overflow_cast-next : goal.overflow_cast-next
overflow_cast-next c = omega (arith, start_few c.args.self.now, c.requires.choice.page.within)

pub returns : goal.returns
returns c = settle_some c.in-Some.ensures
