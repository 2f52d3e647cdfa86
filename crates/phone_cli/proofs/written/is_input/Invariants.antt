use Rattle.std.proofs.Common.{◌≡◌, false, map, take}
use Rattle.std.specs.List.{list_any}
use Rattle.std.specs.Str.{bytes_eq}
use Rattle.phone_cli.specs.Operands.{input_name}
use Rattle.phone_cli.proofs.written.is_input.Given as goal

abbrev pub invariant-loop-name : goal.invariant-loop-name
invariant-loop-name g l =
    list_any (bytes_eq l.written.name.now) (map input_name (take l.name-index l.files)) ≡ false
