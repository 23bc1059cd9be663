use Rattle.std.proofs.Common.{◌≡◌, ◌+◌, ◌-◌, length, take, drop, refl, ap, ◌∙◌, arith}
use Rattle.std.proofs.Math.Seq.{length-slice}
use Rattle.queue.proofs.Going.{between, front_next}
use Rattle.queue.proofs.Dropping.{lead_first, lead_empty, lead_more, lead_stop, lead_none}
use Rattle.queue.proofs.Queue.drop_worse.Goals as goal

pub returns-then-self-clause-rule : goal.returns-then-self-clause-rule
returns-then-self-clause-rule c = lead_empty c.requires c.if-self.true

pub dropping-init : goal.dropping-init
dropping-init c =
    let q = c.args.self.now in
    let lent : c.into_iter-pair-iterator.result.rest.now ≡ take (q.end - q.front) (drop q.front c.args.queue.now) = cc in
    record {
      rule = lead_first c.requires c.if-self.false c.through-self.ensures;
      stays = (refl, refl);
      left = lent ∙ between c.args.queue.now q.front q.end c.requires.order;
      two = cc;
    }

pub dropping-preserved : goal.dropping-preserved
dropping-preserved c =
    let inv = c.dropping.invariant in
    let steps = c.in-Some.ensures.steps in
    let t = front_next c.requires.standing inv.left inv.two steps.1.0 steps.1.1 steps.1.2 in
    rw c.take.ensures.counted
    (record {
      rule = lead_more c.requires inv.rule t.more (rw t.next at c.through-second.ensures) c.if-self-second.false
          (rw t.first at c.take.ensures.written);
      stays = inv.stays;
      left = t.left;
      two = steps.0 ∙ inv.two;
    })

pub returns-then-self-second-clause-rule : goal.returns-then-self-second-clause-rule
returns-then-self-second-clause-rule c =
    let inv = c.dropping.invariant in
    let steps = c.in-Some.ensures.steps.1 in
    let t = front_next c.requires.standing inv.left inv.two steps.0 steps.1 steps.2 in
    lead_stop c.requires inv.rule t.more (rw t.next at c.through-second.ensures) c.if-self-second.true

pub returns-in-None-clause-rule : goal.returns-in-None-clause-rule
returns-in-None-clause-rule c =
    let inv = c.dropping.invariant in
    let held = length-slice c.dropping.self.front c.args.self.now.end c.args.queue.now c.requires.standing in
    lead_none c.requires inv.rule (omega (arith, held, ap length inv.left, inv.two, c.in-None.ensures.steps.1.0))

pub through-second-requires : goal.through-second-requires
through-second-requires c =
    let inv = c.dropping.invariant in
    let steps = c.in-Some.ensures.steps.1 in
    let t = front_next c.requires.standing inv.left inv.two steps.0 steps.1 steps.2 in
    rw t.next (c.requires.each (c.dropping.self.front + 1) (omega (arith, inv.rule.shed.low)) t.more)
