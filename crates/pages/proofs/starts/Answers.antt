use Rattle.std.proofs.Common.{arith}
use Rattle.pages.proofs.Paging.{paging_ask, paging_began, paging_length, paging_fits, paging_next}
use Rattle.pages.proofs.PagingEnds.{paging_first, paging_done}
use Rattle.pages.proofs.starts.Goals as goal

pub loop-i-init : goal.loop-i-init
loop-i-init c = paging_first c.requires (c.fill.ensures.after (λ y e. e)) (c.fill-2.ensures.after (λ y e. e))

pub offset_bounds-moves-taken : goal.offset_bounds-moves-taken
offset_bounds-moves-taken c = omega (arith, paging_began c.loop-i.invariant, paging_length c.loop-i.invariant, c.well_formed)

pub slice_bounds-apply-count : goal.slice_bounds-apply-count
slice_bounds-apply-count c = paging_began c.loop-i.invariant

pub slice_bounds-apply-start : goal.slice_bounds-apply-start
slice_bounds-apply-start c = paging_began c.loop-i.invariant

pub apply-came-requires : goal.apply-came-requires
apply-came-requires c =
    let s = c.new-start.ensures in
    let g = rw (← s.same_limits, ← s.same_sums) at c.loop-i.invariant in
    paging_ask c.new-start.result g (omega (arith, s.same_start))

pub overflow_add-taken : goal.overflow_add-taken
overflow_add-taken c =
    let s = c.new-start.ensures in
    let g = rw (← s.same_limits, ← s.same_sums) at c.loop-i.invariant in
    omega (arith, paging_fits c.new-start.result g (omega (arith, s.same_start)) c.apply-came.ensures, c.well_formed)

pub loop-i-preserved : goal.loop-i-preserved
loop-i-preserved c =
    let s = c.new-start.ensures in
    let g = rw (← s.same_limits, ← s.same_sums) at c.loop-i.invariant in
    rw (s.same_limits, s.same_sums, s.same_start) at
    (paging_next c.new-start.result g (omega (arith, s.same_start)) c.apply-came.ensures)

pub returns : goal.returns
returns c = paging_done c.loop-i.invariant c.loop-i-test.false
