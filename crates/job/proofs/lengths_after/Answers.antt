use Rattle.std.proofs.Common.{refl, ◌+◌, ◌≤◌, arith, length}
use Rattle.job.specs.Reader.{lengths_after}
use Rattle.job.specs.Section.{count_whole, count_cut}
use Rattle.job.proofs.Answers.{refused}
use Rattle.job.proofs.lengths_after.Goals as goal

pub returns-then-job-at : goal.returns-then-job-at
unfolding lengths_after
returns-then-job-at c = refused (count_cut _ _ _ (omega arith)) refl

pub returns : goal.returns
unfolding lengths_after
returns c =
    let h : c.args.at + 4 ≤ length c.args.job.now = omega arith in
    rw (count_whole, ← c.number.ensures) c.lengths_from.ensures
