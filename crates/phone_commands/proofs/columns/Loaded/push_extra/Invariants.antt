use Rattle.std.proofs.Common.{◌≡◌, ◌++◌, take}
use Rattle.phone_commands.specs.Columns.{asked, loaded, spoken}
use Rattle.phone_commands.proofs.columns.Loaded.push_extra.Given as goal

abbrev pub invariant-loop-column : goal.invariant-loop-column
invariant-loop-column l =
    asked l.extra.items ≡ asked l.initial.extra.items ++
    spoken l.self.locale (loaded (take l.column-index l.self.columns.items))
