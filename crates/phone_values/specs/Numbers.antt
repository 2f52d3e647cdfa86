-- National numbers: a value and the zeros before it, their text, and what a text is read as. After
-- the original's `national_number`.
use Rattle.std.specs.Prelude.{ℕ, ◌+◌, ◌*◌, ◌/◌, ◌%◌, ◌^◌, ◌==◌, ◌<◌, nat_lt, ◌&&◌, if◌then◌else◌}
use Rattle.std.specs.Prelude.{List, [], ◌∷◌, ◌++◌, length, drop, replicate, Option, Some, None}
use Rattle.std.specs.Prelude.{Result, Ok, Err}
use Rattle.std.specs.Char.{is_digit}
use Rattle.std.specs.Fmt.{decimal}
use Rattle.std.specs.List.{list_all}
use Rattle.std.specs.Str.Parse.{digits_value, without_leading_plus}
use Rattle.phone_values.specs.declared.error.ParseError.{ParseError}
use Rattle.phone_values.specs.declared.error.ParseError.TheVariants.{TooLong, MalformedInteger}

-- a national number is a value and the count of zeros before it
pub record National : Type 0 where
  pub zeros : ℕ
  pub value : ℕ

-- it is held in one word, the zeros above 56 bits of value
abbrev pub packed : National → ℕ
packed n = n.zeros * 2 ^ 56 + n.value

-- what a word holds: the zeros above its lower 56 bits, the value in them
abbrev pub unpacked : ℕ → National
unpacked word = record { zeros = word / 2 ^ 56; value = word % 2 ^ 56 }

-- that word has room for 255 zeros and for values below 2 ^ 56
abbrev pub IsHeld : National → Type 0
IsHeld n = (n.zeros < 256) × (n.value < 2 ^ 56)

-- its text is the zeros, then the value in decimal
abbrev pub text_of : National → List ℕ
text_of n = replicate n.zeros 48 ++ decimal n.value

-- how many zeros stand at the front of a text
abbrev pub leading_zeros : List ℕ → ℕ
leading_zeros [] = 0
leading_zeros (c ∷ cs) = if c == 48 then leading_zeros cs + 1 else 0

-- the number below 2 ^ k that a text writes: digits, before which one plus sign may stand
abbrev pub number_in : ℕ → List ℕ → Option ℕ
number_in k text =
    let digits = without_leading_plus text in
    if nat_lt 0 (length digits) && list_all (λ c. is_digit c 10) digits &&
    nat_lt (digits_value 10 digits) (2 ^ k)
    then Some (digits_value 10 digits) else None

-- without a number the text is malformed; at most 255 zeros and 56 bits of value fit
abbrev pub national_with : ℕ → Option ℕ → Result National ParseError
national_with count None = Err MalformedInteger
national_with count (Some value) =
    if nat_lt count 256 && nat_lt value (2 ^ 56) then Ok (record { zeros = count; value = value })
    else Err TooLong

-- what a text is read as: its leading zeros, and the number below 2 ^ 64 that follows them
abbrev pub national_in : List ℕ → Result National ParseError
national_in text = national_with (leading_zeros text)
    (number_in 64 (drop (leading_zeros text) text))
