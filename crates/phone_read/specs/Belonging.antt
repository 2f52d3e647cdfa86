-- Whether a number belongs to a territory, as the code holds it.
use Rattle.std.specs.Prelude.{◌≡◌, ℕ, Bool, true, false, List}
use Rattle.phone_records.specs.declared.loader.Metadata.{Metadata}
use Rattle.phone_read.specs.Kinds.{type_of}
use Rattle.phone_read.specs.declared.belonging.Belonging.{Belonging}
use Rattle.phone_read.specs.declared.belonging.Belonging.TheVariants.{No, ByDigits, ByKind}

-- it belongs to it
abbrev pub is_member : Belonging → Bool
is_member No = false
is_member ByDigits = true
is_member (ByKind kind) = true

-- where its kind was told, that is the kind of the digits in the territory
abbrev pub IsOfKind : Metadata → List ℕ → Belonging → Type 0
IsOfKind m digits No = Unit {0}
IsOfKind m digits ByDigits = Unit {0}
IsOfKind m digits (ByKind kind) = kind ≡ type_of m digits
