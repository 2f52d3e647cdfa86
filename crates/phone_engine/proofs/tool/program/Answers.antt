use Rattle.std.proofs.Common.{refl, sym, subst}
use Rattle.phone_engine.specs.Programs.{Acts}
use Rattle.phone_engine.specs.Programs.Acts.{wrong_words, no_database, ran}
use Rattle.phone_engine.proofs.tool.program.Goals as goal

pub returns-in-Err : goal.returns-in-Err
returns-in-Err g c =
    subst (Acts _ _) (sym c.status_after.ensures.status)
    (wrong_words _ (sym c.in-Err.ensures) (refl, refl) c.status_after.ensures.told)

pub returns-in-Err-load : goal.returns-in-Err-load
returns-in-Err-load g c =
    subst (Acts _ _) (sym c.status_after-in-Err-load.ensures.status)
    (no_database _ c.in-Err-load.error (sym c.in-Ok.ensures) c.in-Err-load.ensures.refused (refl, refl)
    (rw (c.database_refused.ensures, c.number.ensures) at c.status_after-in-Err-load.ensures.told))

pub returns : goal.returns
returns g c =
    subst (Acts _ _) (sym c.status_of_run.ensures.status)
    (ran _ _ c.run-end.result (sym c.in-Ok.ensures) c.run-end.ensures.ends c.status_of_run.ensures.said)
