use Rattle.std.proofs.Common.{ap, refl, sym, ◌∙◌}
use Rattle.phone_cli.specs.Answers.AnswersReading.{misfit, no_database, no_file, to_output}
use Rattle.phone_cli.specs.Operands.{region_and_files}
use Rattle.phone_cli.proofs.RunLemmas.{by_operands}
use Rattle.phone_cli.proofs.tool.on_files.Goals as goal

pub returns-in-Some : goal.returns-in-Some
returns-in-Some g c = λ reads. by_operands _ _ _ _ _ _ (c.hint_and_files-hint.ensures ∙
    ap region_and_files c.as_slice.ensures.value) (rw c.in-Some.ensures.status
    (no_file c.in-Some.ensures.absent.0 c.in-Some.ensures.absent.1 c.in-Some.ensures.absent.2
    c.in-Some.ensures.absent.3 (
      c.in-Some.ensures.told.0,
      record {
        idle = refl;
        said = c.in-Some.ensures.told.1;
      },
    )))

pub returns-in-Some-misfit : goal.returns-in-Some-misfit
returns-in-Some-misfit g c = λ reads. let told = rw (c.in_default.ensures.silent refl) at c.say.ensures.some in
    by_operands _ _ _ _ _ _ (c.hint_and_files-hint.ensures ∙
    ap region_and_files c.as_slice.ensures.value) (rw c.say.ensures.status
    (misfit (sym c.in-Some-misfit.ensures) (told.0, record { idle = refl; said = told.1 })))

pub returns-in_default-database_of : goal.returns-in_default-database_of
returns-in_default-database_of g c = λ reads. let told = rw (c.in_default.ensures.silent refl) at
    c.say-in_default-database_of.ensures.some in
    by_operands _ _ _ _ _ _ (c.hint_and_files-hint.ensures ∙
    ap region_and_files c.as_slice.ensures.value) (rw c.say-in_default-database_of.ensures.status
    (no_database (sym c.in_default-database_of.ensures)
    (told.0, record { idle = refl; said = told.1 })))

pub returns-in-None : goal.returns-in-None
returns-in-None g c = λ reads.
    let fits = sym c.in_default-misfit.ensures in
    let does = rw (c.in_default.ensures.silent refl) at (c.on_reading.ensures reads fits) in
    by_operands _ _ _ _ _ _ (c.hint_and_files-hint.ensures ∙
    ap region_and_files c.as_slice.ensures.value) (to_output _ c.in-Some-database_of.path fits (sym c.in-Some-database_of.ensures)
    c.in-None.is does)
