use Rattle.std.proofs.Common.{arith}
use Rattle.pointer.proofs.Joining.{joining_first, join_place, join_on, join_stop}
use Rattle.pointer.proofs.start.Start.links.Goals as goal

pub loop-k-init : goal.loop-k-init
loop-k-init c = joining_first c.requires

pub put-requires : goal.put-requires
put-requires c = record {
  place = join_place c.requires c.loop-k.invariant c.loop-k-test.true;
  index = omega (arith, c.loop-k.invariant.within, c.requires.bests.passed.few);
}

pub loop-k-preserved : goal.loop-k-preserved
loop-k-preserved c = join_on c.requires c.loop-k.invariant c.loop-k-test.true c.put.ensures

pub returns : goal.returns
returns c = join_stop c.requires c.loop-k.invariant c.loop-k-test.false
