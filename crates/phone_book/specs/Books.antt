-- What a contract sees of a contact book, and what holds of every one.
use Rattle.std.specs.Prelude.{◌≡◌, List, String, string_bytes, true}
use Rattle.std.specs.declared.alloc.Global.{Global}
use Rattle.std.specs.List.{AllByRecursion}
use Rattle.phone_plans.specs.CodeLookUps.{is_listed}
use Rattle.phone_records.specs.declared.loader.Metadata.{Metadata}
use Rattle.phone_values.specs.declared.reading.Reading.{Reading}
use Rattle.phone_values.specs.declared.rules.Rules.{Rules}
use Rattle.phonenumber.specs.Bounds.{IsBounded}
use Rattle.phone_book.specs.Keys.{key_text}

-- the records of its database, the rules by which it reads, and its numbers in order of arrival
pub record Contacts : Type 0 where
  pub database : List Metadata
  pub rules : Rules
  pub entries : List Reading

-- an entry: a number at its key
abbrev pub Entry : Type 0
Entry = String Global × Reading

-- the key is the number's, and the number's calling code is listed
abbrev pub IsKept : List Metadata → Entry → Type 0
IsKept db p = (string_bytes p.0 ≡ key_text p.1) × (is_listed p.1.code.value db ≡ true) ×
    IsBounded p.1

-- so each entry of a book
abbrev pub AreKept : List Metadata → List Entry → Type 0
AreKept db es = AllByRecursion (IsKept db) es
