use Rattle.std.proofs.Common.{refl, ◌∙◌}
use Rattle.rows.specs.Puts.{puts_none, along_end}
use Rattle.listing.specs.Listing.{start_rows}
use Rattle.listing.proofs.Rows.{turn_asks, turn_more}
use Rattle.listing.proofs.text.Text.start_rows.Goals as goal

pub start_row-requires : goal.start_row-requires
start_row-requires c = turn_asks c.requires c.loop-k.invariant.puts c.loop-k-test.true refl c.next_start-j.ensures

pub loop-k-preserved : goal.loop-k-preserved
loop-k-preserved c = record {
  same_buffer = c.start_row.ensures.0 ∙ c.loop-k.invariant.same_buffer;
  puts = turn_more c.requires c.loop-k.invariant.puts c.loop-k-test.true refl c.next_start-j.ensures c.start_row.ensures.1;
}

pub returns : goal.returns
unfolding start_rows
returns c = (c.loop-k.invariant.same_buffer, along_end c.loop-k.invariant.puts c.loop-k-test.false puts_none)
