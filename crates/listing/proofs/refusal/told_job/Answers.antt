use Rattle.std.proofs.Common.{refl, Ok}
use Rattle.refusals.specs.Tells.{Tells}
use Rattle.job.specs.declared.Asked.{Asked}
use Rattle.job.specs.declared.Job.{Job}
use Rattle.job.specs.declared.Asked.TheVariants.{Paragraph, Index}
use Rattle.job.specs.Promise.{told_limits, told_job}
use Rattle.listing.proofs.refusal.told_job.Goals as goal

told-read : (job : Job) → Tells (told_job (Ok job)).number (told_job (Ok job)).place (record { number = 0; place = 0 })
unfolding told_job
told-read job =
    go job.limits.asked
  where
    go : (asked : Asked) →
        Tells (told_limits job.limits.count asked job.n).number (told_limits job.limits.count asked job.n).place
        (record { number = 0; place = 0 })
    go (Paragraph l) = record { is_number = refl; is_place = refl }
    go (Index l) = record { is_number = refl; is_place = refl }

pub returns-in-Ok : goal.returns-in-Ok
returns-in-Ok c = rw c.in-Ok.is (told-read _)

pub returns-in-Err : goal.returns-in-Err
unfolding told_job
returns-in-Err c = rw c.in-Err.is c.from.ensures
