use Rattle.std.proofs.Common.{refl, arith, rules}
use Rattle.lines.proofs.Signed.{sub_fits, mul_fits, cast_fits, cast_is}
use Rattle.lines.proofs.Sizes.{square_fits, squaring, weighed_fits}
use Rattle.lines.proofs.weighed.Goals as goal

pub overflow_sub-d : goal.overflow_sub-d
overflow_sub-d c = search (rules, sub_fits (squaring c.requires))

pub overflow_mul-d : goal.overflow_mul-d
overflow_mul-d c = mul_fits (squaring c.requires)

pub overflow_cast-d-3 : goal.overflow_cast-d-3
overflow_cast-d-3 c = cast_fits (squaring c.requires) (omega (arith, square_fits c.requires))

pub overflow_mul-l : goal.overflow_mul-l
overflow_mul-l c = rw (cast_is (squaring c.requires)) (omega (arith, weighed_fits c.requires))

pub returns : goal.returns
returns c = rw (c.from.ensures, cast_is (squaring c.requires)) (refl, weighed_fits c.requires)
