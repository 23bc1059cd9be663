use Rattle.breaks.proofs.Filling.{filling_sums, filling_last, filling_done}
use Rattle.breaks.proofs.fill.Goals as goal

pub invariant_of-text : goal.invariant_of-text
invariant_of-text c = record { summed = filling_sums c.requires c.fill_sums.ensures; ends = filling_last c.requires c.fill_sums.ensures }

pub returns : goal.returns
returns c =
    filling_done c.requires c.fill_sums.ensures c.starts-taken.new.queue c.starts-taken.ensures c.starts-taken.auto.queue
    (c.fill.ensures.after (λ y e. e))
