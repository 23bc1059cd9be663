use Rattle.std.proofs.Common.{arith}
use Rattle.pointer.proofs.Gaps.{start_few}
use Rattle.pointer.proofs.Lowers.{lowering_first, steps_done, steps_place, steps_on}
use Rattle.pointer.proofs.start.Start.steps.Goals as goal

pub loop-at-init : goal.loop-at-init
loop-at-init c = lowering_first c.requires.page.above c.requires.room

pub overflow_cast-at : goal.overflow_cast-at
overflow_cast-at c = omega (arith, start_few c.args.self.now)

pub put-requires : goal.put-requires
put-requires c = record {
  place = steps_place c.args.self.now c.requires c.loop-at.invariant c.loop-at-test.true;
  index = omega (arith, start_few c.args.self.now);
}

pub loop-at-preserved : goal.loop-at-preserved
loop-at-preserved c = steps_on c.args.self.now c.requires c.loop-at.invariant c.loop-at-test.true c.put.ensures

pub returns : goal.returns
returns c = steps_done c.args.self.now c.requires c.loop-at.invariant c.loop-at-test.false
