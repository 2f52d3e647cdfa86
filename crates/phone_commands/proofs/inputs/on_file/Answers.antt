use Rattle.std.proofs.Common.{refl}
use Rattle.phone_commands.specs.Inputs.IsAnswered.{file, unopened}
use Rattle.phone_commands.proofs.inputs.on_file.Goals as goal

pub returns-in-Ok : goal.returns-in-Ok
returns-in-Ok g c not to_come faults =
    rw c.failed_in.ensures
    (file c.on_asked.result c.on_asked.new.source.source.faults.value not
    (rw (c.new-source.ensures, c.new.ensures.faults) at c.on_asked.ensures) refl refl)

pub returns-in-Err : goal.returns-in-Err
returns-in-Err g c not to_come faults = unopened not refl refl
