use Rattle.std.proofs.Common.{◌∙◌}
use Rattle.rows.specs.Puts.{puts_then}
use Rattle.listing.proofs.heading.heading.Goals as goal

pub returns : goal.returns
returns c = (
  c.named-3.ensures.0 ∙ c.named-2.ensures.0 ∙ c.named.ensures.0,
  puts_then c.named.ensures.1 (puts_then c.named-2.ensures.1 c.named-3.ensures.1),
)
