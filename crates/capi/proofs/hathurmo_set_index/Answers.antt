use Rattle.capi.proofs.Crossing.{crossed}
use Rattle.capi.proofs.hathurmo_set_index.Goals as goal

pub returns : goal.returns
returns c = crossed c.set_index.ensures c.from.ensures
