use Rattle.std.proofs.Common.{◌≡◌, ◌++◌, take}
use Rattle.phone_commands.specs.Columns.{loaded, wanted}
use Rattle.phone_commands.proofs.columns.push_all_loaded.Given as goal

abbrev pub invariant-loop-column : goal.invariant-loop-column
invariant-loop-column g l =
    loaded l.columns.items ≡ loaded l.initial.columns.items ++ wanted (take l.column-index l.all)
