use Rattle.std.proofs.Common.{ap, ◌∙◌}
use Rattle.job.specs.Reader.{JobAnswer}
use Rattle.job.specs.Promise.{told_job}
use Rattle.capi.specs.Promise.{in_job_numbers}
use Rattle.capi.proofs.hathurmo_read_job.Goals as goal

pub returns : goal.returns
returns c =
    record {
      tells = c.from.ensures ∙ ap (λ (j : JobAnswer). in_job_numbers (told_job j)) c.read.ensures.tells;
      strips = c.read.ensures.strips;
    }
