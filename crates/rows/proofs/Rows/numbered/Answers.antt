use Rattle.std.proofs.Common.{arith, ◌∙◌}
use Rattle.rows.proofs.Turns.{row_fits, row_put}
use Rattle.rows.proofs.Rows.numbered.Goals as goal

pub number-requires : goal.number-requires
number-requires c = let f = row_fits _ _ c.requires in omega arith

pub end-requires : goal.end-requires
end-requires c =
    let f = row_fits _ _ c.requires in
    omega (arith, c.number.ensures.1)

pub returns : goal.returns
returns c = (c.end.ensures.0 ∙ c.number.ensures.0, row_put _ _ c.number.ensures.1 c.end.ensures.1)
