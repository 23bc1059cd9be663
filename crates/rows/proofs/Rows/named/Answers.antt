use Rattle.std.proofs.Common.{arith, ◌∙◌}
use Rattle.rows.proofs.Turns.{row_fits, row_put}
use Rattle.rows.proofs.Rows.named.Goals as goal

pub text-requires : goal.text-requires
text-requires c = let f = row_fits _ _ c.requires in omega arith

pub end-requires : goal.end-requires
end-requires c =
    let f = row_fits _ _ c.requires in
    omega (arith, c.text.ensures.1)

pub returns : goal.returns
returns c = (c.end.ensures.0 ∙ c.text.ensures.0, row_put _ _ c.text.ensures.1 c.end.ensures.1)
