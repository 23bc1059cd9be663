use Rattle.pointer.proofs.Points.{point_steps, point_jumps, point_done}
use Rattle.pointer.proofs.start.Start.point.Goals as goal

pub steps-stepped-requires : goal.steps-stepped-requires
steps-stepped-requires c = point_steps c.requires

pub jumps-requires : goal.jumps-requires
jumps-requires c = point_jumps c.requires c.steps-stepped.ensures

pub returns : goal.returns
returns c = point_done c.requires c.steps-stepped.ensures c.jumps.ensures
