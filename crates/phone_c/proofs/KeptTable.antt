-- The handle of a table that nothing wrote is as it was.
use Rattle.std.proofs.Common.{refl}
use Rattle.phone_c_base.specs.PrefixTables.{IsTableKept}
use Rattle.phone_c_base.specs.declared.table.PrefixTable.{PrefixTable}
use Rattle.phone_c.proofs.Kept.{in_block}

pub kept : (h : PrefixTable) → IsTableKept h h
kept h = (λ closed. closed, λ some. (in_block h.at some, refl))
