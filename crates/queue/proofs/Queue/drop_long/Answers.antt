use Rattle.std.proofs.Common.{refl, arith}
use Rattle.queue.proofs.Going.{lent_member}
use Rattle.queue.proofs.Shedding.{shed_first}
use Rattle.queue.proofs.Dropping.{long_more, long_stop, long_none}
use Rattle.queue.proofs.Queue.drop_long.Goals as goal

pub dropping-init : goal.dropping-init
dropping-init c = record { rule = shed_first c.requires; stays = (refl, refl); cost = refl; at = omega arith }

pub dropping-preserved : goal.dropping-preserved
dropping-preserved c =
    let inv = c.dropping.invariant in
    let q = c.args.self.now in
    let is = lent_member c.args.queue.now q.front q.end c.dropping.j-index c.dropping.self.front (omega arith) inv.at in
    rw c.take.ensures.counted
    (record {
      rule = long_more c.requires inv.rule (omega arith) (rw is at c.end_of.ensures) c.if-end_of-r.false (rw is at c.take.ensures.written);
      stays = inv.stays;
      cost = inv.cost;
      at = omega (arith, inv.at);
    })

pub returns-then-end_of-r-clause-rule : goal.returns-then-end_of-r-clause-rule
returns-then-end_of-r-clause-rule c =
    let inv = c.dropping.invariant in
    let q = c.args.self.now in
    let is = lent_member c.args.queue.now q.front q.end c.dropping.j-index c.dropping.self.front (omega arith) inv.at in
    long_stop c.requires inv.rule (omega arith) (rw is at c.end_of.ensures) c.if-end_of-r.true

pub returns-after-dropping-clause-rule : goal.returns-after-dropping-clause-rule
returns-after-dropping-clause-rule c =
    let inv = c.dropping.invariant in
    long_none c.requires inv.rule (omega (arith, inv.at, c.requires.order, c.dropping-test.false))
