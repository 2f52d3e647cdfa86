-- The digits of a number that are its destination code, and its area code.
use Rattle.std.specs.Prelude.{◌≡◌, ℕ, ◌==◌, Bool, if◌then◌else◌, List, [], ◌++◌, length, chars}
use Rattle.std.specs.Prelude.{filter}
use Rattle.phone_chars.specs.Characters.{is_digit}
use Rattle.phone_values.specs.Numbers.{text_of}
use Rattle.phone_values.specs.declared.reading.Reading.{Reading}
use Rattle.phone_records.specs.declared.loader.Metadata.{Metadata}
use Rattle.phone_questions.specs.Groups.{first_group, laid_abroad, second_group}

-- the digits of the destination code in a text that is laid out: the first group, of mobiles with a
-- token the first two; none where there is just one group
abbrev pub destination_digits : Bool → List ℕ → List ℕ
destination_digits with_token t =
    if length (second_group t) == 0 then []
    else if with_token then first_group t ++ second_group t else first_group t

-- a territory lays a number out for calls from abroad with its digits in their order
abbrev pub KeepsDigits : Metadata → Reading → Type 0
KeepsDigits m n = filter is_digit (chars (laid_abroad m (text_of n.national))) ≡ text_of n.national

-- so many digits are a beginning of a number's, and these are they
abbrev pub IsBeginning : Reading → ℕ → List ℕ → Type 0
IsBeginning n count front = (rest : List ℕ) × (text_of n.national ≡ front ++ rest) ×
    (length front ≡ count)
