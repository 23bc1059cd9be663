use Rattle.std.proofs.Common.{refl, ◌≤◌, arith, length}
use Rattle.job.specs.Reader.{reading, read_outcome}
use Rattle.job.specs.Section.{count_whole, count_cut}
use Rattle.job.proofs.Answers.{refused}
use Rattle.job.proofs.read.Goals as goal

pub returns-then-job-lt4 : goal.returns-then-job-lt4
unfolding read_outcome reading
returns-then-job-lt4 c = refused (count_cut _ _ _ (omega arith)) refl

pub returns : goal.returns
unfolding read_outcome reading
returns c =
    let h : 4 ≤ length c.args.job.now = omega arith in
    rw (count_whole, ← c.number.ensures) c.limits_from.ensures
