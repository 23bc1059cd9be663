use Rattle.std.proofs.Common.{◌≡◌}
use Rattle.rows.specs.Rows.{row_rest}
use Rattle.rows.specs.Puts.{Along}
use Rattle.rows.proofs.Rows.end.Given as goal

abbrev pub invariant-loop-x : goal.invariant-loop-x
invariant-loop-x l = record {
  same_buffer : l.self.out.ghost_name ≡ l.initial.self.out.ghost_name;
  puts : Along row_rest l.numbers l.x-index l.initial.self.at l.initial.self.out.now l.self.at l.self.out.now;
}
