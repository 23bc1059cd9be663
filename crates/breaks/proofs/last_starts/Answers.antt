use Rattle.breaks.proofs.Beginning.{begun_first}
use Rattle.breaks.proofs.Shortening.{none_asks, free_asks}
use Rattle.breaks.proofs.last_starts.Goals as goal

pub short_starts-from-requires : goal.short_starts-from-requires
short_starts-from-requires c = none_asks (begun_first c.args.text.now.summed c.requires) c.min.ensures

pub short_starts-requires : goal.short_starts-requires
short_starts-requires c = free_asks c.short_starts-from.ensures.begun c.min.ensures c.short_starts-from.ensures.long
