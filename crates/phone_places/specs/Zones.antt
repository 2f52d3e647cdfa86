-- The time zones of a number.
use Rattle.std.specs.Prelude.{◌≡◌, ℕ, List, Option, Some, codes, unwrap_or}
use Rattle.phone_languages.specs.Told.{IsTextIn}
use Rattle.phone_prefixes.specs.Tables.{Entry}

-- the zone of numbers of which none is known
abbrev pub unknown_zone : List ℕ
unknown_zone = codes "Etc/Unknown"

-- the zones that a table has; where it has none, the unknown one
abbrev pub zones_told : Option (List ℕ) → List ℕ
zones_told found = unwrap_or found unknown_zone

-- the zones of digits
abbrev pub AreZones : List Entry → (digits text : List ℕ) → Type 0
AreZones zones digits text =
    (found : Option (List ℕ)) × IsTextIn (Some zones) digits found × (text ≡ zones_told found)
