use Rattle.std.proofs.Common.{◌≡◌, false, take}
use Rattle.std.specs.List.{list_any}
use Rattle.std.specs.Str.{bytes_eq}
use Rattle.phone_cli.specs.Operands.{named_files}
use Rattle.phone_cli.proofs.written.is_any_written.Given as goal

abbrev pub invariant-loop-name : goal.invariant-loop-name
invariant-loop-name g l =
    list_any (bytes_eq l.written.name.now) (named_files (take l.name-index l.names)) ≡ false
