-- How a number is dialled from a region with the letters in which it was written: our own answer,
-- whose digits and letters are those of the number, behind what is dialled before them.
use Rattle.std.specs.Prelude.{ℕ, ◌==◌, if◌then◌else◌, List, ◌∷◌, ◌++◌, chars, codes}
use Rattle.std.specs.Prelude.{encode_utf8_all, Option, None, Some, option_map, unwrap_or}
use Rattle.std.specs.Fmt.{decimal}
use Rattle.std.specs.List.{filter_map}
use Rattle.std.specs.Option.{option_and_then, option_map_or}
use Rattle.phone_chars.specs.Characters.{is_digit}
use Rattle.phone_parts.specs.Texts.{begins}
use Rattle.phone_values.specs.Numbers.{text_of}
use Rattle.phone_values.specs.declared.country.Id.{Id}
use Rattle.phone_values.specs.declared.reading.Reading.{Reading}
use Rattle.phone_library_text.specs.Letters.{is_lettered}
use Rattle.phone_library_text.specs.Viable.{HasNumber}
use Rattle.phone_plans.specs.CodeLookUps.{first_of, territories}
use Rattle.phone_print.specs.Texts.{extension_part}
use Rattle.phone_records.specs.declared.loader.Metadata.{Metadata}
use Rattle.phone_questions.specs.Matches.{extension_told}
use Rattle.phone_questions.specs.Regions.{territory_of}
use Rattle.phone_dialling.specs.Abroad.{behind_prefix, dialled_text, prefix_of}
use Rattle.phone_dialling.specs.Kept.{kept_char}
use Rattle.phone_dialling.specs.Keys.{dialled_end}
use Rattle.phone_dialling.specs.Lettered.{at_home, ruled_in}

-- such an end at home: between regions of the code 1 behind the digit 1 and a space; else with its
-- first group of digits by the rule of the territory, where it begins with one
abbrev pub home_end : Metadata → Reading → List ℕ → Option (List ℕ)
home_end m n t = if n.code.value == 1 then Some (codes "1 " ++ t)
    else if begins is_digit (chars t) then Some (ruled_in m (text_of n.national) t)
    else None

-- from abroad: code and end behind the prefix of the territory that is dialled from
abbrev pub abroad_end : Option Metadata → Reading → List ℕ → List ℕ
abroad_end from n t = behind_prefix (option_and_then prefix_of from)
    (decimal n.code.value ++ 32 ∷ t)

-- at home, or from abroad
abbrev pub placed : Option Metadata → Reading → List ℕ → Option (List ℕ)
placed from n t = option_map_or (λ m. home_end m n t) (at_home n.code.value from)
    (Some (abroad_end from n t))

-- with the number's extension behind it
abbrev pub lettered_end : Option Metadata → (first : Metadata) → Reading → List ℕ → Option (List ℕ)
lettered_end from first n t = option_map
    (λ s. s ++ extension_part first (extension_told n.extension)) (placed from n t)

-- what is kept of a text: its digits, letters as capitals, and signs between groups
abbrev pub kept_from : List ℕ → List ℕ
kept_from t = encode_utf8_all (filter_map kept_char t)

-- a number dialled with what was kept of a text, where an end of that is the number
abbrev pub lettered_by : Option Metadata → (first : Metadata) → Reading → List ℕ → Option (List ℕ)
lettered_by from first n kept = option_and_then (λ t. lettered_end from first n t)
    (dialled_end (text_of n.national) (chars kept))

-- the same, where the text has three letters, and the number's code is listed
abbrev pub lettered_of : List Metadata → Option Id → Reading → List ℕ → Option (List ℕ)
lettered_of db from n front = if is_lettered front
    then option_and_then (λ (first : Metadata).
    lettered_by (option_and_then (territory_of db) from) first n (kept_from front))
    (first_of (territories n.code.value db))
    else None

-- a number dialled with the letters of a text; else as any number is
abbrev pub with_letters : List Metadata → Option Id → Reading → List ℕ → List ℕ
with_letters db from n front = unwrap_or (lettered_of db from n front) (dialled_text db from None n)

-- a number dialled from a region with the letters of the text that it was read from, besides those
-- of its extension; without a text as any number is
pub data IsDialled (db : List Metadata) (from : Option Id) (n : Reading) :
    Option (List ℕ) → List ℕ → Type 0 where
  unread : IsDialled db from n None (dialled_text db from None n)
  written : (raw front : List ℕ) (extension : Option (List ℕ)) →
      HasNumber (chars raw) front extension →
      IsDialled db from n (Some raw) (with_letters db from n front)
