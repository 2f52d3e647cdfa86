-- Which numbers of ASCII digits, with a plus sign before them or without, both readings read alike:
-- the first, after the original, and the second, by libphonenumber's rules.
use Rattle.std.specs.Prelude.{◌≡◌, ◌<◌, ◌≤◌, ◌==◌, ℕ, Bool, true, false, List, ◌∷◌, length, Option}
use Rattle.std.specs.Prelude.{None, Some, Ok}
use Rattle.std.specs.Fmt.{decimal}
use Rattle.std.specs.List.{list_all}
use Rattle.phone_chars.specs.Characters.{is_digit}
use Rattle.phone_values.specs.Numbers.{text_of}
use Rattle.phone_values.specs.declared.country.Id.{Id}
use Rattle.phone_values.specs.declared.reading.Reading.{Reading}
use Rattle.phone_library.specs.LibraryCodes.{code_in}
use Rattle.phone_library.specs.Readings as second
use Rattle.phone_library.specs.Stripping.{untouched}
use Rattle.phone_library_laws.specs.Again.{IsSettled}
use Rattle.phone_library_text.specs.Written.{most_characters}
use Rattle.phone_plans.specs.CodeLookUps.{shortest}
use Rattle.phone_parts.specs.Texts.{is_front}
use Rattle.phone_read.specs.Dialling.{after_match, found_in}
use Rattle.phone_read.specs.Strips as first
use Rattle.phone_read.specs.CallingCodes.{international_prefix_of}
use Rattle.phone_read.specs.Hints.{Coded, hinted}
use Rattle.phone_read.specs.Readings as first_reading
use Rattle.phone_read.specs.Regions.{home}
use Rattle.phone_records.specs.declared.loader.Metadata.{Metadata}
use Rattle.phone_territory.specs.Records.{code_of}

-- digits, with a plus sign before them or without
abbrev pub digits_text : Bool → List ℕ → List ℕ
digits_text true digits = 43 ∷ digits
digits_text false digits = digits

-- what follows the international prefix of the hint's territory
abbrev pub after_prefix : Option Metadata → List ℕ → Option (List ℕ)
after_prefix m digits = after_match digits (found_in (international_prefix_of m) digits)

-- both readings find one calling code in digits, under the hint's territory
pub data IsCodedAlike (db : List Metadata) (m : Option Metadata) (digits : List ℕ) : Bool → Type 0
  where
    -- a listed code after a plus sign, where no international prefix follows the sign
    signed : (code : ℕ) → after_prefix m digits ≡ None → shortest db digits ≡ Some code →
        IsCodedAlike db m digits true
    -- a code after an international prefix, and more than two digits
    prefixed : (after : List ℕ) → after_prefix m digits ≡ Some after → 2 < length after →
        IsCodedAlike db m digits false
    -- the code of the hint's territory, with which the digits don't begin
    own : (t : Metadata) → m ≡ Some t → after_prefix m digits ≡ None →
        is_front (decimal (code_of t)) digits ≡ false → IsCodedAlike db m digits false

-- both strip the digits after a calling code to the same, of which one isn't 0; before they are
-- stripped, they are at least two
pub record IsStrippedAlike (db : List Metadata) (hint : Option Id) (c : Coded) : Type 0 where
  pub two : 2 ≤ length c.rest
  pub alike : first.stripped (first_reading.stripping_territory db hint c) c.rest
      ≡ second.stripped (second.stripping_territory db (hinted db hint) c) c.rest
  pub not_zeros : list_all (λ d. d == 48)
      (second.stripped (second.stripping_territory db (hinted db hint) c) c.rest).national ≡ false

-- three ASCII digits and more, as many as a text may have, that are coded and stripped alike
pub record IsReadAlike (db : List Metadata) (hint : Option Id) (has_plus : Bool)
    (digits : List ℕ) : Type 0 where
  pub digits_alone : list_all is_digit digits ≡ true
  pub enough : 3 ≤ length digits
  pub few : length (digits_text has_plus digits) ≤ most_characters
  pub coded : IsCodedAlike db (hinted db hint) digits has_plus
  pub stripped : (c : Coded) → code_in db (hinted db hint) has_plus digits ≡ Ok c →
      IsStrippedAlike db hint c

-- a number that both read again from its E.164 text: it is settled, it isn't 0, and without a hint
-- the first reading strips nothing off it either
pub record IsSettledAlike (db : List Metadata) (n : Reading) : Type 0 where
  pub settled : IsSettled db n
  pub not_zero : 0 < n.national.value
  pub idle : first.stripped
      (home db n.code.value (first_reading.without_zeros (text_of n.national))) (text_of n.national)
      ≡ untouched (text_of n.national)

-- three ASCII digits and more, not zeros alone, as they are dialled in the hint's territory: they
-- begin neither with its international prefix nor with its code. It has no national prefix and no
-- parsing pattern
pub record IsOwnNumber (db : List Metadata) (hint : Option Id) (digits : List ℕ) : Type 0 where
  pub territory : Metadata
  pub is_hint : hinted db hint ≡ Some territory
  pub no_prefix : territory.national_prefix ≡ None
  pub no_pattern : territory.national_prefix_for_parsing ≡ None
  pub digits_alone : list_all is_digit digits ≡ true
  pub enough : 3 ≤ length digits
  pub few : length digits ≤ most_characters
  pub not_zeros : list_all (λ d. d == 48) digits ≡ false
  pub not_international : after_prefix (Some territory) digits ≡ None
  pub no_code : is_front (decimal (code_of territory)) digits ≡ false
