-- Numbers without repetition.
use Rattle.std.specs.Prelude.{◌==◌, ◌&&◌, not, Bool, List, [], ◌∷◌, filter, ℕ, Option}
use Rattle.std.specs.List.{list_any}
use Rattle.std.specs.Option.{option_eq}
use Rattle.std.specs.Str.{bytes_eq}
use Rattle.phone_values.specs.Numbers.{National}
use Rattle.phone_values.specs.declared.reading.Reading.{Reading}

-- two national numbers are one: the zeros in front and the value
abbrev pub is_same_national : National → National → Bool
is_same_national a b = (a.zeros == b.zeros) && (a.value == b.value)

-- two extensions are one: their texts, or both are none
abbrev pub is_same_extension : Option (List ℕ) → Option (List ℕ) → Bool
is_same_extension a b = option_eq bytes_eq a b

-- two numbers are one: of one calling code, one national number and one extension; source and
-- carrier may differ
abbrev pub is_same_number : Reading → Reading → Bool
is_same_number a b = (a.code.value == b.code.value) &&
    (is_same_national a.national b.national && is_same_extension a.extension b.extension)

-- the same number is among these
abbrev pub is_among : Reading → List Reading → Bool
is_among n ns = list_any (λ m. is_same_number m n) ns

-- the numbers before which the same one doesn't stand, in order
abbrev pub firsts : List Reading → List Reading
firsts [] = []
firsts (n ∷ ns) = n ∷ filter (λ m. not (is_same_number n m)) (firsts ns)
