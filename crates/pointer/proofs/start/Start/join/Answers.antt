use Rattle.std.proofs.Common.{arith}
use Rattle.pointer.specs.Held.{bests_size}
use Rattle.pointer.proofs.Joining.{links_low}
use Rattle.pointer.proofs.Joined.{join_none, join_some}
use Rattle.pointer.proofs.start.Start.join.Goals as goal

pub returns-then-self-eq0 : goal.returns-then-self-eq0
returns-then-self-eq0 c = join_none c.args.self.now c.requires.began c.if-self-eq0.true

pub bounds-right-self : goal.bounds-right-self
bounds-right-self c =
    let a = c.requires.links (omega (arith, c.if-self-eq0.false)) in
    omega (arith, links_low a, bests_size a.bests, a.right_size)

pub returns : goal.returns
returns c = join_some c.args.self.now c.if-self-eq0.false c.links-reached.ensures
