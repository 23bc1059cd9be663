use Rattle.std.proofs.Common.{refl, arith}
use Rattle.queue.proofs.Shedding.{shed_first}
use Rattle.queue.proofs.Popping.{bridge_more, bridge_stop, bridge_none}
use Rattle.queue.proofs.Queue.pop_bridged.Goals as goal

pub popping-init : goal.popping-init
popping-init c = record { rule = shed_first c.requires.shed; stays = (refl, refl); cost = refl; at = refl }

pub popping-preserved : goal.popping-preserved
popping-preserved c =
    let inv = c.popping.invariant in
    rw c.take.ensures.counted
    (record {
      rule = bridge_more c.requires inv.rule (omega arith) c.at.ensures c.at-in-popping.ensures c.bridged.ensures
          c.if-not-bridged.false c.take.ensures.written;
      stays = inv.stays;
      cost = inv.cost;
      at = refl;
    })

pub returns-then-not-bridged-clause-rule : goal.returns-then-not-bridged-clause-rule
returns-then-not-bridged-clause-rule c =
    rw c.popping.invariant.at
    (bridge_stop c.requires c.popping.invariant.rule (omega arith) c.at.ensures c.at-in-popping.ensures c.bridged.ensures
    c.if-not-bridged.true)

pub returns-after-popping-clause-rule : goal.returns-after-popping-clause-rule
returns-after-popping-clause-rule c = rw c.popping.invariant.at (bridge_none c.requires c.popping.invariant.rule (omega arith))
