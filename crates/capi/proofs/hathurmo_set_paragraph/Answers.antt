use Rattle.capi.proofs.Crossing.{crossed}
use Rattle.capi.proofs.hathurmo_set_paragraph.Goals as goal

pub returns : goal.returns
returns c = crossed c.set_paragraph.ensures c.from.ensures
