-- Which kind a number is.
use Rattle.std.specs.Prelude.{ℕ, ◌==◌, Option}
use Rattle.std.specs.List.{find}
use Rattle.phone_values.specs.declared.kind.«Type».{«Type»}
use Rattle.phone_c_base.specs.Answers.{kind_number}
use Rattle.phone_values.specs.declared.named.TheConstants.{KINDS}

-- the kind that has this number
unfoldable pub kind_of : ℕ → Option «Type»
kind_of number = find (λ kind. kind_number kind == number) KINDS
