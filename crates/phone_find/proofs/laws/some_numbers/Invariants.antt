use Rattle.std.proofs.Common.{◌+◌, ◌<◌, ℕ, List, Option, length}
use Rattle.phone_values.specs.declared.country.Id.{Id}
use Rattle.phone_records.specs.declared.loader.Metadata.{Metadata}
use Rattle.phone_find.specs.Founds.{IsDecided}
use Rattle.phone_find.specs.Numbers.{IsNumberAt}
use Rattle.phone_values.specs.declared.rules.Rules.{Rules}
use Rattle.phone_find.specs.declared.leniency.Leniency.{Leniency}
use Rattle.phone_find.proofs.laws.some_numbers.Given as goal

abbrev pub invariant-loop-start : goal.invariant-loop-start
invariant-loop-start l = (rules : Rules) (db : List Metadata) (hint : Option Id) (leniency : Leniency)
    (start : ℕ) → start < l.start → (end : ℕ) → end < length l.text →
    IsDecided (IsNumberAt rules db hint leniency l.text) l.text start (end + 1)
