use Rattle.std.proofs.Common.{sym, refl, rules}
use Rattle.pointer.proofs.Starting.{start_points, start_settles, start_joins, start_done, lent_ask, lent_done}
use Rattle.pointer.proofs.start.Start.apply.Goals as goal

pub point-at-requires : goal.point-at-requires
point-at-requires c = start_points (lent_ask c.requires refl)

pub settle-cost-requires : goal.settle-cost-requires
settle-cost-requires c = start_settles (lent_ask c.requires refl) c.point-at.ensures

pub join-requires : goal.join-requires
join-requires c = start_joins (lent_ask c.requires refl) c.point-at.ensures c.settle-cost.ensures

pub returns : goal.returns
returns c =
    let d = start_done (lent_ask c.requires refl) c.point-at.ensures c.settle-cost.ensures c.join.ensures in
    let same = sym d.took.same in
    lent_done d refl (search rules)
