use Rattle.std.proofs.Common.{rules}
use Rattle.listing.specs.Listing.{refused}
use Rattle.listing.proofs.Passes.{refused_fits}
use Rattle.listing.proofs.refusal.ReasonPut.put.Goals as goal

pub named-requires : goal.named-requires
unfolding refused
named-requires c = refused_fits _ _ (search rules) (search rules)

pub returns : goal.returns
unfolding refused
returns c = rw (← c.from.ensures) (search rules)
