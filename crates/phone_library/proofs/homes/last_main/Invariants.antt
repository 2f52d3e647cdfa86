use Rattle.std.proofs.Common.{◌≡◌, filter, option_map, reverse, IfSome}
use Rattle.std.specs.List.{find}
use Rattle.phone_library.proofs.CodeTerritories.{last_main}
use Rattle.phone_library.specs.Homes.{TellsKind, territory_of}
use Rattle.phone_library.specs.Kinds.{has_digits}
use Rattle.phone_plans.specs.CodeLookUps.{is_main_of}
use Rattle.phone_library.proofs.homes.last_main.Given as goal

abbrev pub invariant-loop-territory : goal.invariant-loop-territory
invariant-loop-territory l =
    (find (has_digits l.digits) (reverse (filter (is_main_of l.code) l.db)) ≡ last_main (has_digits l.digits) l.territory-iterator (option_map territory_of l.found))
    × IfSome l.found (TellsKind l.digits)
