-- What is known in a locale.
use Rattle.std.specs.Prelude.{ℕ, List, [], map, unwrap_or}
use Rattle.std.specs.Option.{option_copied}
use Rattle.phone_languages.specs.NameTables.{first_name}
use Rattle.phone_languages.specs.Told.{IsTold}
use Rattle.phone_languages.specs.declared.atlas.Atlas.{Atlas}

-- the area of digits
abbrev pub IsArea : Atlas → (digits text : List ℕ) → Type 0
IsArea a digits text =
    IsTold a.locale.now (option_copied a.areas.own) (option_copied a.areas.english) digits text

-- the carrier of digits
abbrev pub IsCarrier : Atlas → (digits text : List ℕ) → Type 0
IsCarrier a digits text = IsTold a.locale.now (option_copied a.carriers.own)
    (option_copied a.carriers.english) digits text

-- the name of a region by its id, by the first table that has one; empty where none does
abbrev pub name_in : Atlas → List ℕ → List ℕ
name_in a id = unwrap_or (first_name (map (λ t. t.now) a.names.now) id) []
