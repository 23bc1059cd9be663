use Rattle.std.proofs.Common.{refl, ◌∙◌}
use Rattle.rows.specs.Puts.{along_more}
use Rattle.rows.proofs.Rows.text.Goals as goal

pub loop-byte-preserved : goal.loop-byte-preserved
loop-byte-preserved c = record {
  same_buffer = c.put.ensures.0 ∙ c.loop-byte.invariant.same_buffer;
  puts = along_more c.loop-byte.invariant.puts c.loop-byte-test.true refl c.put.ensures.1;
}
