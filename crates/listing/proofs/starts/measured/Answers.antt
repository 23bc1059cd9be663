use Rattle.std.proofs.Common.{inl, inr}
use Rattle.listing.proofs.Measuring.{line_span, free_is, paid_inside, paid_is}
use Rattle.listing.proofs.starts.measured.Goals as goal
use Rattle.listing.proofs.starts.measured.Goals.{else-j-lengths-via-then-j-lengths+else-x-l, else-j-lengths-via-else-j-lengths}

pub line_length-x-requires : goal.line_length-x-requires
line_length-x-requires c = line_span c.requires

pub returns-then-x-l : goal.returns-then-x-l
returns-then-x-l c = free_is c.requires c.line_length-x.ensures c.from.ensures c.if-j-lengths.true c.if-x-l.true-raw

pub penalty-requires : goal.penalty-requires
penalty-requires c =
    paid_inside c.requires c.line_length-x.ensures c.from-2.ensures
    (elim c.else-j-lengths.branch [
      | else-j-lengths-via-then-j-lengths+else-x-l w ↦ inl w.if-x-l.false-raw
      | else-j-lengths-via-else-j-lengths w ↦ inr w.if-j-lengths.false
    ])

pub returns : goal.returns
returns c =
    paid_is c.requires c.line_length-x.ensures c.from-2.ensures
    (elim c.else-j-lengths.branch [
      | else-j-lengths-via-then-j-lengths+else-x-l w ↦ inl w.if-x-l.false-raw
      | else-j-lengths-via-else-j-lengths w ↦ inr w.if-j-lengths.false
    ]) c.penalty.ensures
