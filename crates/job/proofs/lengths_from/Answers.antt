use Rattle.std.proofs.Common.{refl, sym, ap, arith, length, length-drop}
use Rattle.std.proofs.lemmas.Result.{err_from_is_err_and}
use Rattle.laws.specs.Strip.{lent_is}
use Rattle.job.specs.Section.{length_numbers}
use Rattle.job.proofs.Sections.{cut_kept, whole_written}
use Rattle.job.proofs.Answers.{refused, accepted, lengths_many, lengths_room, lengths_left, lengths_cut, lengths_whole}
use Rattle.job.proofs.lengths_from.Goals as goal

pub returns-then-count-gt4096 : goal.returns-then-count-gt4096
returns-then-count-gt4096 c = refused (lengths_many _ _ _ _ _ (omega arith)) refl

pub returns-then-lengths-n : goal.returns-then-lengths-n
returns-then-lengths-n c = refused (lengths_room _ _ _ _ _ (omega arith) (omega arith)) refl

pub returns-then-n-part : goal.returns-then-n-part
returns-then-n-part c =
    let left = ap length (lent_is c.args.job.now c.args.at) in
    refused (lengths_left _ _ _ _ _ (omega arith) (omega arith) (omega (arith, left, length-drop c.args.at c.args.job.now))) refl

pub returns-in_err-section : goal.returns-in_err-section
returns-in_err-section c =
    let read = rw (lent_is c.args.job.now c.args.at) at c.section.ensures in
    let p = err_from_is_err_and c.from_residual.result c.from_residual.ensures.1 in
    rw (p.1, p.2)
    (refused (lengths_cut _ _ _ _ _ (omega arith) (omega arith) read c.in_err-section.was) (cut_kept read c.in_err-section.was))

pub returns : goal.returns
returns c =
    let read = rw (lent_is c.args.job.now c.args.at) at c.section.ensures in
    accepted _
    (lengths_whole _ _ _ _ _ (omega arith) (omega arith) read c.in_ok-section.was
    (omega (arith, ap length (lent_is c.args.job.now c.args.at), length-drop c.args.at c.args.job.now)))
    (sym (length_numbers _ _))
    (whole_written read c.in_ok-section.was)
