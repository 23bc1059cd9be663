use Rattle.pages.proofs.Parts.{fill_starts, fill_done}
use Rattle.pages.proofs.fill.Goals as goal

pub starts-requires : goal.starts-requires
starts-requires c = fill_starts c.requires c.fill_sums.ensures

pub returns : goal.returns
returns c = fill_done c.requires c.fill_sums.ensures c.starts.ensures
