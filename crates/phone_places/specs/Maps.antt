-- What tables of prefixes tell of a number.
use Rattle.std.specs.Prelude.{◌==◌, ◌||◌, ℕ, Bool, true, false, List, ◌++◌, Option, Some}
use Rattle.std.specs.Prelude.{None}
use Rattle.std.specs.Borrow.{Bor}
use Rattle.std.specs.Fmt.{decimal}
use Rattle.phone_values.specs.Numbers.{text_of}
use Rattle.phone_values.specs.declared.kind.«Type».{«Type»}
use Rattle.phone_values.specs.declared.kind.«Type».TheVariants as kind
use Rattle.phone_values.specs.declared.reading.Reading.{Reading}
use Rattle.phone_places.specs.declared.maps.Owner.{Owner}
use Rattle.phone_places.specs.declared.maps.Owner.TheVariants as owner
use Rattle.phone_prefixes.specs.Tables.{Entry, IsLongest, NoneBegins}

-- the digits of a number's calling code
abbrev pub code_digits : Reading → List ℕ
code_digits n = decimal n.code.value

-- the digits of a number's E.164 text
abbrev pub digits_of : Reading → List ℕ
digits_of n = decimal n.code.value ++ text_of n.national

-- calling codes whose mobile numbers belong to a place: those of Mexico, Argentina, Brazil,
-- Indonesia and China
abbrev pub has_places_of_mobiles : ℕ → Bool
has_places_of_mobiles code = code == 52 || code == 54 || code == 55 || code == 62 || code == 86

-- numbers of this kind and calling code belong to a place in their country
abbrev pub is_geographical : «Type» → ℕ → Bool
is_geographical kind.FixedLine code = true
is_geographical kind.FixedLineOrMobile code = true
is_geographical kind.Mobile code = has_places_of_mobiles code
is_geographical other code = false

-- numbers of this kind have a mobile carrier
abbrev pub has_carrier : «Type» → Bool
has_carrier kind.Mobile = true
has_carrier kind.FixedLineOrMobile = true
has_carrier kind.Pager = true
has_carrier other = false

-- the first carrier is asked for
abbrev pub is_first : Owner → Bool
is_first owner.First = true
is_first owner.Today = false

-- the text of the longest prefix that begins the digits, and none where none does
abbrev pub IsTextOf : List Entry → List ℕ → Option (Bor (List ℕ)) → Type 0
IsTextOf entries digits None = NoneBegins entries digits
IsTextOf entries digits (Some text) = (prefix : List ℕ) ×
    IsLongest entries digits (record { prefix = prefix; text = text.now })
