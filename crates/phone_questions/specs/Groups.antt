-- How many digits of a number are its area code, and its destination code: as libphonenumber tells,
-- by the groups in which the number is laid out for calls from abroad.
use Rattle.std.specs.Prelude.{ℕ, ◌+◌, ◌==◌, ◌&&◌, ◌||◌, not, nat_lt, Bool, true, false}
use Rattle.std.specs.Prelude.{if◌then◌else◌, List, [], ◌∷◌, length, chars, is_some, Option, None}
use Rattle.std.specs.Option.{option_map_or}
use Rattle.phone_chars.specs.Characters.{is_digit}
use Rattle.phone_chars.specs.Cuts.{after_front, front}
use Rattle.phone_values.specs.Numbers.{text_of}
use Rattle.phone_values.specs.declared.kind.«Type».{«Type»}
use Rattle.phone_values.specs.declared.kind.«Type».TheVariants.{Mobile}
use Rattle.phone_values.specs.declared.mode.Mode.TheVariants.{International}
use Rattle.phone_values.specs.declared.reading.Reading.{Reading}
use Rattle.phone_values.specs.declared.rules.Rules.TheVariants.{Library}
use Rattle.phone_library.specs.Facts.{kind_of_number}
use Rattle.phone_plans.specs.CodeLookUps.{first_of, territories}
use Rattle.phone_print.specs.Layouts.{laid, layout_by}
use Rattle.phone_records.specs.declared.loader.Metadata.{Metadata}
use Rattle.phone_questions.specs.Belonging.{own_territory}
use Rattle.phone_questions.specs.Kinds.{is_geographical_kind, mobile_token}

-- digits laid out for calls from abroad
abbrev pub laid_abroad : Metadata → List ℕ → List ℕ
laid_abroad m digits =
    laid (layout_by Library m International None digits) m International None digits

-- a character that is no digit
abbrev pub is_between : ℕ → Bool
is_between c = not (is_digit c)

-- the first group of digits in a text
abbrev pub first_group : List ℕ → List ℕ
first_group t = front is_digit (after_front is_between t)

-- what follows it
abbrev pub after_group : List ℕ → List ℕ
after_group t = after_front is_digit (after_front is_between t)

-- the second group
abbrev pub second_group : List ℕ → List ℕ
second_group t = first_group (after_group t)

-- numbers of a kind and a code whose first group is the token of mobiles
abbrev pub has_token : «Type» → ℕ → Bool
has_token Mobile code = not (length (mobile_token code) == 0)
has_token kind code = false

-- the digits of the destination code in a text that is laid out: the first group, of mobiles with a
-- token the first two; none where there is just one group
abbrev pub length_in_groups : Bool → List ℕ → ℕ
length_in_groups with_token t =
    if length (second_group t) == 0 then 0
    else if with_token then length (first_group t) + length (second_group t)
    else length (first_group t)

-- how many digits of a number of a kind are its national destination code, by the first territory
-- of its code
abbrev pub destination_by : List Metadata → «Type» → Reading → ℕ
destination_by db kind n = option_map_or
    (λ m. length_in_groups (has_token kind n.code.value)
    (chars (laid_abroad m (text_of n.national))))
    (first_of (territories n.code.value db)) 0

-- the same of a number, which is of the kind that its territory tells
abbrev pub destination_length : List Metadata → Reading → ℕ
destination_length db n = destination_by db (kind_of_number db n) n

-- a mobile number
abbrev pub is_mobile : «Type» → Bool
is_mobile Mobile = true
is_mobile kind = false

-- mobile numbers of China, which are of a place but have no area code
abbrev pub is_without_area : «Type» → ℕ → Bool
is_without_area kind code = is_mobile kind && (code == 86)

-- a number may have an area code where its territory has a national prefix, or it has a leading
-- zero, or is of Mexico, which has area codes and no prefix
abbrev pub may_have_area : Reading → Metadata → Bool
may_have_area n m = is_some m.national_prefix || nat_lt 0 n.national.zeros || (n.code.value == 52)

-- a number of a kind has an area code: it may have one and is of a place
abbrev pub has_area : «Type» → Reading → Metadata → Bool
has_area kind n m = may_have_area n m && not (is_without_area kind n.code.value) &&
    is_geographical_kind kind n.code.value

-- how many digits of a number are its area code: those of its destination code, where it has one
abbrev pub area_length : List Metadata → Reading → ℕ
area_length db n = option_map_or
    (λ m. if has_area (kind_of_number db n) n m then destination_length db n else 0)
    (own_territory db n) 0
