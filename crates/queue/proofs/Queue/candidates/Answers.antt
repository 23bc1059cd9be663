use Rattle.std.proofs.Common.{refl, ◌∙◌}
use Rattle.queue.proofs.Trying.{trying_first, trying_more, trying_stop, trying_end}
use Rattle.queue.proofs.Queue.candidates.Goals as goal

pub falling-init : goal.falling-init
falling-init c = record { rule = trying_first c.requires; stays = refl; cost = refl }

pub falling-preserved : goal.falling-preserved
falling-preserved c =
    let front = c.falling.invariant.stays in
    record {
      rule = rw c.consider.ensures.stays.1
          (trying_more c.requires c.falling.invariant.rule c.falling-test.true c.at-new.ensures c.if-new-r.false
          (rw front at c.consider.ensures.rule));
      stays = c.consider.ensures.stays.0 ∙ front;
      cost = c.consider.ensures.cost ∙ c.falling.invariant.cost;
    }

pub returns-then-new-r-clause-rule : goal.returns-then-new-r-clause-rule
returns-then-new-r-clause-rule c =
    rw c.falling.invariant.stays
    (trying_stop c.requires c.falling.invariant.rule c.falling-test.true c.at-new.ensures c.if-new-r.true)

pub returns-after-falling-clause-rule : goal.returns-after-falling-clause-rule
returns-after-falling-clause-rule c =
    rw c.falling.invariant.stays (trying_end c.requires c.falling.invariant.rule c.falling-test.false)
