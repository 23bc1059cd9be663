use Rattle.std.proofs.Common.{arith}
use Rattle.pointer.proofs.Gaps.{start_small}
use Rattle.pointer.proofs.start.Start.new.Goals as goal

pub overflow_add-result : goal.overflow_add-result
overflow_add-result c = let small = start_small c.args.limits c.requires.held c.args.i c.requires.low in omega arith

pub overflow_add-result-2 : goal.overflow_add-result-2
overflow_add-result-2 c = let small = start_small c.args.limits c.requires.held c.args.i c.requires.low in omega arith
