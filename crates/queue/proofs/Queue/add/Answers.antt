use Rattle.std.proofs.Common.{refl, arith}
use Rattle.queue.proofs.Adding.{adding_worse, adding_bridged, adding_done}
use Rattle.queue.proofs.Queue.add.Goals as goal

pub pop_worse-requires : goal.pop_worse-requires
pop_worse-requires c = adding_worse c.requires

pub pop_bridged-requires : goal.pop_bridged-requires
pop_bridged-requires c =
    rw c.pop_worse.ensures.stays.0
    (adding_bridged c.requires c.curve-cost.ensures.0 c.pop_worse.ensures.rule (omega (arith, c.pop_worse.auto.moves)))

pub returns-clause-rule : goal.returns-clause-rule
returns-clause-rule c =
    rw c.take.ensures.counted
    (adding_done c.requires c.curve-cost.ensures.0 c.pop_worse.ensures.rule
    (rw c.pop_worse.ensures.stays.0 at c.pop_bridged.ensures.rule) refl
    (omega (arith, c.pop_worse.auto.moves, c.pop_bridged.auto.moves)) c.take.ensures.written)
