use Rattle.std.proofs.Common.{refl, arith}
use Rattle.queue.proofs.Shedding.{shed_first}
use Rattle.queue.proofs.Popping.{worse_more, worse_stop, worse_none}
use Rattle.queue.proofs.Queue.pop_worse.Goals as goal

pub popping-init : goal.popping-init
popping-init c = record { rule = shed_first c.requires; stays = (refl, refl); cost = refl; at = refl }

pub popping-preserved : goal.popping-preserved
popping-preserved c =
    let inv = c.popping.invariant in
    rw c.take.ensures.counted
    (record {
      rule = worse_more c.requires inv.rule (omega arith) c.through.ensures.0 c.if-through-cost.false c.take.ensures.written;
      stays = inv.stays;
      cost = inv.cost;
      at = refl;
    })

pub returns-then-through-cost-clause-rule : goal.returns-then-through-cost-clause-rule
returns-then-through-cost-clause-rule c =
    rw c.popping.invariant.at
    (worse_stop c.requires c.popping.invariant.rule (omega arith) c.through.ensures.0 c.if-through-cost.true)

pub returns-after-popping-clause-rule : goal.returns-after-popping-clause-rule
returns-after-popping-clause-rule c = rw c.popping.invariant.at (worse_none c.requires c.popping.invariant.rule (omega arith))
