use Rattle.std.proofs.Common.{arith}
use Rattle.strips.proofs.Writing.{filling_first, filling_more, filling_fits, filling_done}
use Rattle.strips.proofs.fill_sums.Goals as goal

pub loop-k-init : goal.loop-k-init
loop-k-init c = filling_first _ _ (omega arith)

pub overflow_add-total : goal.overflow_add-total
overflow_add-total c =
    let fits = filling_fits c.loop-k.invariant c.loop-k-test.true c.requires.space c.requires.allowed c.requires.few in
    omega arith

pub loop-k-preserved : goal.loop-k-preserved
loop-k-preserved c = filling_more c.loop-k.invariant c.loop-k-test.true c.requires.room

pub returns : goal.returns
returns c = filling_done c.loop-k.invariant (omega arith)
