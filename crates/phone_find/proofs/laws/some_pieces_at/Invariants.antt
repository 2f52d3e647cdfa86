use Rattle.std.proofs.Common.{◌+◌, ◌<◌, ℕ, List, Option}
use Rattle.phone_values.specs.declared.country.Id.{Id}
use Rattle.phone_records.specs.declared.loader.Metadata.{Metadata}
use Rattle.phone_find.specs.Founds.{IsDecided}
use Rattle.phone_find.specs.Numbers.{IsNumberAt}
use Rattle.phone_values.specs.declared.rules.Rules.{Rules}
use Rattle.phone_find.specs.declared.leniency.Leniency.{Leniency}
use Rattle.phone_find.proofs.laws.some_pieces_at.Given as goal

abbrev pub invariant-loop-end : goal.invariant-loop-end
invariant-loop-end l = (rules : Rules) (db : List Metadata) (hint : Option Id) (leniency : Leniency) (end : ℕ) →
    end < l.end → IsDecided (IsNumberAt rules db hint leniency l.text) l.text l.start (end + 1)
