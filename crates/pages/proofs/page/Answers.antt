use Rattle.std.proofs.Common.{refl}
use Rattle.pages.proofs.Answers.{page_none, page_follows, page_some}
use Rattle.pages.proofs.page.Goals as goal

pub returns-then-total : goal.returns-then-total
returns-then-total c = page_none c.requires c.fill-taken.ensures c.if-total.true

pub follow-found-requires : goal.follow-found-requires
follow-found-requires c = page_follows c.requires c.fill-taken.ensures c.if-total.false refl

pub returns : goal.returns
returns c =
    let answer = page_some c.requires c.fill-taken.ensures c.if-total.false refl in
    answer c.follow-found.ensures
