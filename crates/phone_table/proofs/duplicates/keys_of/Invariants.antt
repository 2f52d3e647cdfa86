use Rattle.std.proofs.Common.{◌≡◌, String, Global, string_bytes, take}
use Rattle.phone_table.specs.Duplicates.{shared_by}
use Rattle.phone_table.specs.Held.{answered, found}
use Rattle.phone_table.proofs.duplicates.keys_of.Given as goal

abbrev pub invariant-loop-place : goal.invariant-loop-place
invariant-loop-place l = (q : String Global) → found l.keys.entries q ≡ shared_by (answered (take l.place l.all)) (string_bytes q)
