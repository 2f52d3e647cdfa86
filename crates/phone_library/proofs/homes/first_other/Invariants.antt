use Rattle.std.proofs.Common.{◌≡◌, filter}
use Rattle.std.specs.List.{find}
use Rattle.phone_library.proofs.CodeTerritories.{first_other}
use Rattle.phone_library.specs.Kinds.{has_digits}
use Rattle.phone_plans.specs.CodeLookUps.{is_other_of}
use Rattle.phone_library.proofs.homes.first_other.Given as goal

abbrev pub invariant-loop-territory : goal.invariant-loop-territory
invariant-loop-territory l = find (has_digits l.digits) (filter (is_other_of l.code) l.db) ≡ first_other (has_digits l.digits) l.territory-iterator
