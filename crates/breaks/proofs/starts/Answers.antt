use Rattle.std.proofs.Common.{arith}
use Rattle.breaks.proofs.Beginning.{begun_started}
use Rattle.breaks.proofs.Ends.{started_done}
use Rattle.breaks.proofs.Started.{started_moving, started_turn, turn_asks}
use Rattle.breaks.proofs.Starting.{turn_next}
use Rattle.breaks.proofs.Turning.{turn_fits, turn_choose}
use Rattle.breaks.proofs.starts.Goals as goal

pub going_back-init : goal.going_back-init
going_back-init c = begun_started c.last_starts-begun.ensures _ _ c.requires.queue c.requires.moves

pub moved-p-requires : goal.moved-p-requires
moved-p-requires c = started_moving c.going_back.invariant (omega arith) c.measure_from-first.ensures

pub at_start-at-requires : goal.at_start-at-requires
at_start-at-requires c = turn_asks (started_turn c.going_back.invariant (omega arith) c.measure_from-first.ensures c.moved-p.ensures)

pub choose-chosen-requires : goal.choose-chosen-requires
choose-chosen-requires c =
    turn_choose (started_turn c.going_back.invariant (omega arith) c.measure_from-first.ensures c.moved-p.ensures) c.at_start-at.ensures
    c.args.text.now.ends

pub overflow_add-q : goal.overflow_add-q
overflow_add-q c =
    let turn = started_turn c.going_back.invariant (omega arith) c.measure_from-first.ensures c.moved-p.ensures in
    omega (arith, turn_fits turn c.at_start-at.ensures, c.well_formed)

pub going_back-preserved : goal.going_back-preserved
going_back-preserved c =
    turn_next (started_turn c.going_back.invariant (omega arith) c.measure_from-first.ensures c.moved-p.ensures) c.at_start-at.ensures
    (rw c.args.text.now.ends at c.choose-chosen.ensures) c.settle.ensures

pub returns : goal.returns
returns c = started_done c.going_back.invariant (omega arith)
