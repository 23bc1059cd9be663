use Rattle.std.proofs.Common.{◌≡◌, length, arith}
use Rattle.std.proofs.lemmas.List.{set-get_or}
use Rattle.strips.proofs.Following.{following_first, following_more, following_done, following_full}
use Rattle.strips.proofs.follow.Goals as goal

pub loop-found-init : goal.loop-found-init
loop-found-init c = following_first c.requires

pub returns-then-n-at : goal.returns-then-n-at
returns-then-n-at c = rw set-get_or (following_done c.loop-found.invariant c.if-n-at.true)

pub loop-found-preserved : goal.loop-found-preserved
loop-found-preserved c = following_more c.loop-found.invariant c.loop-found-test.true c.if-n-at.false

pub returns : goal.returns
returns c =
    let full : c.loop-found.found ≡ length c.loop-found.answer = omega arith in
    rw full at (following_full c.loop-found.invariant c.requires (omega arith))
