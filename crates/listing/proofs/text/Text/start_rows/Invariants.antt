use Rattle.std.proofs.Common.{◌≡◌}
use Rattle.rows.specs.Puts.{Along}
use Rattle.listing.specs.Listing.{start_rows}
use Rattle.listing.proofs.text.Text.start_rows.Given as goal

abbrev pub invariant-loop-k : goal.invariant-loop-k
invariant-loop-k l = record {
  same_buffer : l.rows.out.ghost_name ≡ l.initial.rows.out.ghost_name;
  puts : Along (start_rows l.self.asked l.self.lengths.now) l.starts l.k l.initial.rows.at l.initial.rows.out.now l.rows.at l.rows.out.now;
}
