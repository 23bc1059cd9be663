use Rattle.std.proofs.Common.{refl, arith}
use Rattle.queue.proofs.Starting.{starting_long, starting_candidates, starting_worse, starting_done}
use Rattle.queue.proofs.at_start.Goals as goal

pub drop_long-requires : goal.drop_long-requires
drop_long-requires c = starting_long c.requires

pub candidates-requires : goal.candidates-requires
candidates-requires c =
    rw (c.drop_long.ensures.stays.0, c.drop_long.ensures.stays.1)
    (starting_candidates c.requires c.drop_long.ensures.rule c.drop_long.auto.moves)

pub drop_worse-requires : goal.drop_worse-requires
drop_worse-requires c =
    let long = c.drop_long.ensures in
    let rear = rw (long.stays.0, long.stays.1, c.candidates.ensures.stays) at c.candidates.ensures.rule in
    rw c.candidates.ensures.stays
    (starting_worse c.requires long.rule rear (omega (arith, c.drop_long.auto.moves, c.candidates.auto.moves)))

pub returns : goal.returns
returns c =
    let long = c.drop_long.ensures in
    let rear = rw (long.stays.0, long.stays.1, c.candidates.ensures.stays) at c.candidates.ensures.rule in
    starting_done c.requires long.rule rear (rw c.candidates.ensures.stays at c.drop_worse.ensures.rule) refl
    (omega (arith, c.drop_long.auto.moves, c.candidates.auto.moves))
    (omega (arith, c.drop_long.auto.moves, c.candidates.auto.moves, c.drop_worse.auto.moves)) c.drop_worse.ensures.stays
