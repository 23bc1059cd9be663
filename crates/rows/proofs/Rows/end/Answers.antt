use Rattle.std.proofs.Common.{arith, ◌∙◌}
use Rattle.rows.specs.Rows.{row_rest}
use Rattle.rows.specs.Puts.{last_fits, along_end}
use Rattle.rows.proofs.Turns.{turn_fits, turn_more}
use Rattle.rows.proofs.Rows.end.Goals as goal

pub put-requires : goal.put-requires
put-requires c =
    let f = turn_fits c.loop-x.invariant.puts c.loop-x-test.true c.requires in
    omega arith

pub number-requires : goal.number-requires
number-requires c =
    let f = turn_fits c.loop-x.invariant.puts c.loop-x-test.true c.requires in
    omega (arith, c.put.ensures.1)

pub loop-x-preserved : goal.loop-x-preserved
loop-x-preserved c = record {
  same_buffer = c.number.ensures.0 ∙ c.put.ensures.0 ∙ c.loop-x.invariant.same_buffer;
  puts = turn_more c.loop-x.invariant.puts c.loop-x-test.true c.put.ensures.1 c.number.ensures.1;
}

pub put-requires-2 : goal.put-requires-2
unfolding row_rest
put-requires-2 c = last_fits c.loop-x.invariant.puts c.loop-x-test.false c.requires

pub returns : goal.returns
unfolding row_rest
returns c = (
  c.put-2.ensures.0 ∙ c.loop-x.invariant.same_buffer,
  along_end c.loop-x.invariant.puts c.loop-x-test.false c.put-2.ensures.1,
)
