use Rattle.std.proofs.Common.{◌≡◌, map}
use Rattle.std.specs.Option.{option_copied}
use Rattle.phone_plans.specs.CodeLookUps.{territories}
use Rattle.phone_further.specs.ShortNumbers.{short_record}
use Rattle.phone_further.proofs.InTurn.{around}
use Rattle.phone_further.proofs.records.records_of.Given as goal

abbrev pub invariant-loop-m : goal.invariant-loop-m
invariant-loop-m l =
    (l.rows ≡ l.short) ×
    (around (short_record l.short) (map option_copied l.records.items) l.m-iterator ≡ map (short_record l.short) (territories l.code l.database))
