use Rattle.std.proofs.Common.{◌≡◌, drop, map}
use Rattle.phone_languages.specs.NameTables.{first_name}
use Rattle.phone_languages.proofs.names.name_among.Given as goal

abbrev pub invariant-loop-table : goal.invariant-loop-table
invariant-loop-table l = first_name (map (λ t. t.now) l.tables) l.id ≡ first_name (map (λ t. t.now) (drop l.table-index l.tables)) l.id
