use Rattle.std.proofs.Common.{refl, ⊎_elim}
use Rattle.queue.proofs.Considering.{considering_long, considering_none, considering_done}
use Rattle.queue.proofs.Queue.consider.Goals as goal

pub returns-then-r-new-clause-rule : goal.returns-then-r-new-clause-rule
returns-then-r-new-clause-rule c =
    rw c.take.ensures.counted
    (⊎_elim
    (λ long. considering_long c.requires refl c.take.ensures.written long)
    (λ none. considering_none c.requires refl c.take.ensures.written none.1)
    c.then-r-new.either)

pub returns-clause-rule : goal.returns-clause-rule
returns-clause-rule c = considering_done c.requires c.if-r-new.false c.if-new-eq-NONE.false c.add.ensures.rule
