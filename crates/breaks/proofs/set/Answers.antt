use Rattle.std.proofs.Common.{refl}
use Rattle.breaks.proofs.Setting.{setting_none, setting_follow, setting_set}
use Rattle.breaks.proofs.set.Goals as goal

pub returns-then-total : goal.returns-then-total
returns-then-total c = setting_none c.requires c.fill-taken.ensures refl c.if-total.true

pub follow-lines-requires : goal.follow-lines-requires
follow-lines-requires c = setting_follow c.requires c.fill-taken.ensures refl c.if-total.false

pub returns : goal.returns
returns c = setting_set c.requires c.fill-taken.ensures refl c.if-total.false c.follow-lines.ensures
