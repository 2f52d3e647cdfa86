use Rattle.std.proofs.Common.{◌≡◌, ◌∷◌, ◌++◌, take}
use Rattle.csv.specs.Writing.{escaped}
use Rattle.phone_csv.specs.Formats.{writing}
use Rattle.phone_csv.proofs.spelled.push_quoted.Given as goal

abbrev pub invariant-bytes : goal.invariant-bytes
invariant-bytes l = l.text.items ≡ l.fn.text.items ++ 34 ∷ escaped (writing l.delimiter) (take l.byte-index l.field)
