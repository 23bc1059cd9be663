use Rattle.job.proofs.Sections.{Written}
use Rattle.job.proofs.section.Given as goal

abbrev pub invariant-loop-k : goal.invariant-loop-k
invariant-loop-k l = Written l.part l.n l.k l.initial.out l.out
