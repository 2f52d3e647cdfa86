-- What is open behind a handle.
use Rattle.std.specs.Prelude.{◌≡◌, ℕ, List}
use denote.RawPtr.{null_ptr, InBlock}
use Rattle.phone_records.specs.declared.loader.Metadata.{Metadata}
use Rattle.phone_values.specs.declared.rules.Rules.{Rules}
use Rattle.phone_c_base.specs.Openings.{IsDatabaseOf}
use Rattle.phone_c_base.specs.Rules.{rules_number}
use Rattle.phone_c_base.specs.declared.handle.Handle.{Handle}

-- nothing is open: the pointer is null
abbrev pub IsClosed : Handle → Type 0
IsClosed h = h.at ≡ null_ptr

-- the database of these records is open, at a block of memory, and asked by these rules
abbrev pub IsOpen : Handle → List Metadata → Rules → Type 0
IsOpen h db rules = InBlock h.at × (h.records ≡ db) × (h.rules ≡ rules)

-- the same, by the rules of this number
abbrev pub IsOpenOf : Handle → List Metadata → (rules : ℕ) → Type 0
IsOpenOf h db rules = InBlock h.at × (h.records ≡ db) × (rules ≡ rules_number h.rules)

-- the database that a text is, is open, and asked by the rules of this number
abbrev pub IsOpenedBy : List ℕ → (rules : ℕ) → Handle → Type 0
IsOpenedBy text rules h =
    InBlock h.at × IsDatabaseOf text h.records × (rules ≡ rules_number h.rules)

-- the handle is as it was: closed, or the same database is open behind it, asked by the same rules
abbrev pub IsKept : (before after : Handle) → Type 0
IsKept before after = (IsClosed before → IsClosed after) ×
    (¬ (IsClosed before) → IsOpen after before.records before.rules)
