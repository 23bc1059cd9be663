use Rattle.std.proofs.Common.{arith}
use Rattle.breaks.proofs.Shortening.{short_rise, short_more, short_done}
use Rattle.breaks.proofs.short_starts.Goals as goal

pub overflow_sub-last : goal.overflow_sub-last
overflow_sub-last c = rw c.args.text.now.ends (short_rise c.requires c.loop-i.invariant (omega arith) c.loop-i.auto.i)

pub returns-then-narrow-last : goal.returns-then-narrow-last
returns-then-narrow-last c =
    let far = rw c.args.text.now.ends at c.if-narrow-last.true in
    short_done c.requires c.loop-i.invariant (omega arith) c.loop-i.auto.i far

pub loop-i-preserved : goal.loop-i-preserved
loop-i-preserved c =
    let short = rw c.args.text.now.ends at c.if-narrow-last.false in
    short_more c.requires c.loop-i.invariant (omega arith) c.loop-i.auto.i short c.settle.ensures
