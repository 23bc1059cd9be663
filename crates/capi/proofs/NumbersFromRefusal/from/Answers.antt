use Rattle.capi.proofs.Crossing.{number_and_place}
use Rattle.capi.proofs.NumbersFromRefusal.from.Goals as goal

pub returns : goal.returns
returns c =
    let rest = c.default.ensures.1.1 in
    rw (number_and_place _, ← c.from-t.ensures.is_number, ← c.from-t.ensures.is_place, rest.0, rest.1.0, rest.1.1)
