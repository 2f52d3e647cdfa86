-- What a handle owns.
use Rattle.std.specs.Prelude.{List}
use base.Fml.{Fml}
use denote.RattleType.{RattleType}
use denote.RawPtr.{Ptr}
use Rattle.core.specs.Ptr.{if_non_null}
use Rattle.std.specs.declared.alloc.Global.{Global}
use Rattle.std.specs.contracts.impls.GlobalAllocator.TheImpl.{ghosts}
use Rattle.std_alloc.specs.Box.Ownership.{box_owns}
use Rattle.phone_c_base.specs.contracts.opened.Opened as opened
use Rattle.phone_c_base.specs.contracts.shared.Owner as owner
use Rattle.phone_prefixes.specs.Tables.{Entry}
use Rattle.phone_prefixes.specs.contracts.prefixes.Prefixes as prefixes
use Rattle.phone_records.specs.declared.loader.Metadata.{Metadata}
use Rattle.phone_values.specs.declared.rules.Rules.{Rules}

-- the heap of the C library: every `Global` is this one, and holds nothing
abbrev pub c_heap : Global
c_heap = record { memory = record { seal = tt } }

-- at p lies a value, with the right to free its block
abbrev pub boxed_at : (R : RattleType) → Ptr → R.Denot → Fml
boxed_at R p x = box_owns (ghosts.dealloc_token c_heap) R p x

-- nothing at null, else the value that is boxed at p
abbrev pub pointer_owns : (R : RattleType) → Ptr → R.Denot → Fml
pointer_owns R p x = if_non_null p (boxed_at R p x)

-- the handle of a database: one of the owners of the database of these records, and these rules
abbrev pub handle_owns : Ptr → List Metadata × Rules → Fml
handle_owns = pointer_owns opened.the_row

-- the handle of a table of prefixes: one of the owners of the table of these entries
abbrev pub table_owns : Ptr → List Entry → Fml
table_owns = pointer_owns (owner.the_row prefixes.the_row)
