use Rattle.listing.proofs.Passes.{too_short, all_written}
use Rattle.listing.proofs.whole.whole.Goals as goal

pub returns-then-out-size : goal.returns-then-out-size
returns-then-out-size g c = too_short _ c.put-size.ensures c.if-out-size.true

pub returns : goal.returns
returns g c = all_written _ c.put-size.ensures c.if-out-size.false c.put.ensures
