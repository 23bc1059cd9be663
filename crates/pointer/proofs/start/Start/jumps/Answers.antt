use Rattle.std.proofs.Common.{arith}
use Rattle.pointer.proofs.Gaps.{start_few}
use Rattle.pointer.proofs.Lowers.{lowering_first, lowering_place, lowering_more}
use Rattle.pointer.proofs.start.Start.jumps.Goals as goal

pub loop-to-init : goal.loop-to-init
loop-to-init c = lowering_first c.requires.steps.page.above c.requires.steps.room

pub overflow_cast-to : goal.overflow_cast-to
overflow_cast-to c = omega (arith, start_few c.args.self.now, c.in-Some.ensures.page.within)

pub put-requires : goal.put-requires
put-requires c =
    let to = c.in-Some.ensures in
    record {
      place = lowering_place c.loop-to.invariant to.turn c.requires.steps.room;
      index = omega (arith, start_few c.args.self.now, to.page.within);
    }

pub loop-to-preserved : goal.loop-to-preserved
loop-to-preserved c =
    let to = c.in-Some.ensures in
    lowering_more c.loop-to.invariant to.turn c.requires.steps.room to.page.above to.below c.put.ensures
