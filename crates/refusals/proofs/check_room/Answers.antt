use Rattle.std.proofs.Common.{sym, ◌∙◌, ne_eqb, arith, ◌+◌}
use Rattle.refusals.proofs.First.{short_at, short_never}
use Rattle.refusals.proofs.check_room.Goals as goal

pub returns-in-Some : goal.returns-in-Some
returns-in-Some c =
    simp (short_at c.args.rooms.now (sym c.first_short.ensures ∙ c.in-Some.is), ne_eqb (c.in-Some.k + 1) 0 (λ z. omega arith))

pub returns-in-None : goal.returns-in-None
returns-in-None c = simp (short_never c.args.rooms.now (sym c.first_short.ensures ∙ c.in-None.is))
