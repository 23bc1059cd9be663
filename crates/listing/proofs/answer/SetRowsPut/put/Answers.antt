use Rattle.std.proofs.Common.{rules}
use Rattle.rows.specs.Puts.{puts_then}
use Rattle.listing.proofs.answer.SetRowsPut.put.Goals as goal

pub returns : goal.returns
returns c =
    let p = puts_then c.head.ensures.1 (puts_then c.start_rows.ensures.1 c.named.ensures.1) in
    search rules
