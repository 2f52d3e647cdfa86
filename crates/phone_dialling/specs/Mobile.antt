-- How a number is dialled on a mobile phone: as libphonenumber has it.
use Rattle.std.specs.Prelude.{ℕ, ◌==◌, ◌&&◌, ◌||◌, not, Bool, true, false, if◌then◌else◌}
use Rattle.std.specs.Prelude.{List, [], ◌∷◌, length, chars, codes, encode_utf8_all}
use Rattle.std.specs.Prelude.{Option, None, unwrap_or}
use Rattle.std.specs.List.{list_any}
use Rattle.std.specs.Option.{option_map_or}
use Rattle.std.specs.Str.{bytes_eq}
use Rattle.phone_values.specs.Numbers.{text_of}
use Rattle.phone_values.specs.declared.kind.«Type».{«Type»}
use Rattle.phone_values.specs.declared.kind.«Type».TheVariants.{FixedLine, FixedLineOrMobile}
use Rattle.phone_values.specs.declared.kind.«Type».TheVariants.{Mobile}
use Rattle.phone_values.specs.declared.mode.Mode.{Mode}
use Rattle.phone_values.specs.declared.mode.Mode.TheVariants as mode
use Rattle.phone_values.specs.declared.reading.Reading.{Reading}
use Rattle.phone_library.specs.Facts.{kind_of_number}
use Rattle.phone_library.specs.Lengths.{length_in}
use Rattle.phone_plans.specs.CodeLookUps.{first_of, territories}
use Rattle.phone_records.specs.declared.loader.Metadata.{Metadata}
use Rattle.phone_read.specs.Kinds.{is_known}
use Rattle.phone_territory.specs.Records.{id_of}
use Rattle.phone_questions.specs.Belonging.{is_dialled_from_abroad}
use Rattle.phone_questions.specs.Carriers.{national_with, preferred_carrier}
use Rattle.phone_questions.specs.Letters.{diallable_only}
use Rattle.phone_questions.specs.Truncation.{is_too_short}
use Rattle.phone_dialling.specs.Texts.{text_in}
use Rattle.phone_dialling.specs.declared.mobile.MobileWay.{MobileWay}
use Rattle.phone_dialling.specs.declared.mobile.MobileWay.TheVariants.{Abroad, International}
use Rattle.phone_dialling.specs.declared.mobile.MobileWay.TheVariants.{National, Nowhere}
use Rattle.phone_dialling.specs.declared.mobile.MobileWay.TheVariants.{WithCarrier}

-- the numbers of people's telephones, fixed or mobile
abbrev pub is_telephone : «Type» → Bool
is_telephone FixedLine = true
is_telephone Mobile = true
is_telephone FixedLineOrMobile = true
is_telephone kind = false

-- the main regions in which such numbers are dialled as from abroad: Mexico, Chile, Uzbekistan
abbrev pub international_homes : List (List ℕ)
international_homes = codes "MX" ∷ codes "CL" ∷ codes "UZ" ∷ []

-- numbers of a kind are dialled as from abroad in a code's main region: all where the code serves
-- no region, telephones in those regions
abbrev pub is_international_home : List ℕ → «Type» → Bool
is_international_home id kind = bytes_eq id (codes "001") ||
    (is_telephone kind && list_any (bytes_eq id) international_homes)

-- as from abroad, where that is right and the number can be dialled so; else as national text
abbrev pub if_far : Bool → Bool → MobileWay
if_far right far = if right && far then International else National

-- how a number is dialled in its code's main region: telephones of Brazil with a carrier; numbers
-- of the code 1 as from abroad, unless they are too short
abbrev pub way_at_home : Metadata → «Type» → Bool → Reading → MobileWay
way_at_home m kind far n =
    if bytes_eq (id_of m) (codes "BR") && is_telephone kind then WithCarrier
    else if n.code.value == 1
    then if_far (not (is_too_short (length_in m (length (text_of n.national))))) far
    else if_far (is_international_home (id_of m) kind) far

-- how it is dialled elsewhere: where its kind is known and it can be dialled from abroad
abbrev pub way_elsewhere : «Type» → Bool → MobileWay
way_elsewhere kind far = if is_known kind && far then Abroad else Nowhere

-- how a number is dialled where a region's id is this, by the first territory of its code
abbrev pub mobile_way : List Metadata → List ℕ → Reading → Metadata → MobileWay
mobile_way db id n m =
    if bytes_eq (id_of m) id
    then way_at_home m (kind_of_number db n) (is_dialled_from_abroad db n) n
    else way_elsewhere (kind_of_number db n) (is_dialled_from_abroad db n)

-- what of a text a telephone can dial, unless symbols are kept
abbrev pub with_symbols : Bool → List ℕ → List ℕ
with_symbols symbols t = if symbols then t else encode_utf8_all (diallable_only (chars t))

-- the national text with the carrier that was dialled; empty without one
abbrev pub carried_by : List Metadata → List ℕ → Reading → List ℕ
carried_by db [] n = []
carried_by db (c ∷ cs) n = national_with db (c ∷ cs) n

-- a number as it is dialled: its extension isn't, and its carrier only where that is asked for
abbrev pub dialled_part : Reading → Reading
dialled_part n = record n { extension = None; carrier = None }

-- the national text with the carrier of a number
abbrev pub carried : List Metadata → Reading → List ℕ
carried db n = carried_by db (preferred_carrier [] n.carrier) (dialled_part n)

-- the text of a number without its extension
abbrev pub main_text : List Metadata → Mode → Option (List ℕ) → Reading → List ℕ
main_text db mode raw n = text_in db mode raw (dialled_part n)

-- the text of a number that is dialled so
abbrev pub text_by_way : List Metadata → Bool → Option (List ℕ) → Reading → MobileWay → List ℕ
text_by_way db symbols raw n National =
    with_symbols symbols (main_text db mode.National raw n)
text_by_way db symbols raw n International =
    with_symbols symbols (main_text db mode.International raw n)
text_by_way db symbols raw n WithCarrier = with_symbols symbols (carried db n)
text_by_way db symbols raw n Abroad =
    main_text db (if symbols then mode.International else mode.E164) raw n
text_by_way db symbols raw n Nowhere = []

-- what a mobile phone dials where a region's id is this; for a code that isn't listed the text that
-- the number was read from
abbrev pub mobile_text : List Metadata → List ℕ → Bool → Option (List ℕ) → Reading → List ℕ
mobile_text db id symbols raw n = option_map_or
    (λ m. text_by_way db symbols raw n (mobile_way db id n m))
    (first_of (territories n.code.value db)) (unwrap_or raw [])
