-- How a number is dialled from a region with the letters in which it was written: after
-- `formatOutOfCountryKeepingAlphaChars` of libphonenumber.
use Rattle.std.specs.Prelude.{◌≡◌, ℕ, ◌==◌, if◌then◌else◌, List, [], ◌∷◌, ◌++◌}
use Rattle.std.specs.Prelude.{chars, codes, encode_utf8_all, Option, None, Some, unwrap_or}
use Rattle.std.specs.Fmt.{decimal}
use Rattle.std.specs.Option.{option_and_then, option_map_or, option_or}
use Rattle.phone_chars.specs.Cuts.{front}
use Rattle.phone_values.specs.Numbers.{text_of}
use Rattle.phone_values.specs.declared.country.Id.{Id}
use Rattle.phone_values.specs.declared.reading.Reading.{Reading}
use Rattle.phone_library_text.specs.Viable.{HasNumber}
use Rattle.phone_pattern.specs.Rules.{with_mark}
use Rattle.phone_plans.specs.CodeLookUps.{first_of, territories}
use Rattle.phone_print.specs.Texts.{extension_part}
use Rattle.phone_records.specs.declared.loader.Format.{Format}
use Rattle.phone_records.specs.declared.loader.Metadata.{Metadata}
use Rattle.phone_territory.specs.Records.{code_of}
use Rattle.phone_questions.specs.Groups.{after_group, first_group, is_between}
use Rattle.phone_questions.specs.Matches.{extension_told}
use Rattle.phone_questions.specs.Regions.{territory_of}
use Rattle.phone_dialling.specs.Abroad.{behind_prefix, dialled_text, preferred_prefix}
use Rattle.phone_dialling.specs.Abroad.{single_prefix}
use Rattle.phone_dialling.specs.Original.{layout_in}
use Rattle.phone_dialling.specs.Kept.{written}

-- a rule of national text with its marks filled: the national prefix, and a group of digits
abbrev pub ruled_group : (rule prefix group : List ℕ) → List ℕ
ruled_group rule prefix group = with_mark 70 71 group (with_mark 78 80 prefix rule)

-- what stands in a text before its first group of digits
abbrev pub before_group : List ℕ → List ℕ
before_group t = encode_utf8_all (front is_between (chars t))

-- that group
abbrev pub group_in : List ℕ → List ℕ
group_in t = encode_utf8_all (first_group (chars t))

-- what stands behind it
abbrev pub behind_group : List ℕ → List ℕ
behind_group t = encode_utf8_all (after_group (chars t))

-- a text with its first group of digits, which is this, written by a rule; without a group it stays
abbrev pub ruled_by : (rule prefix t group : List ℕ) → List ℕ
ruled_by rule prefix t [] = t
ruled_by rule prefix t (c ∷ cs) =
    before_group t ++ (ruled_group rule prefix (c ∷ cs) ++ behind_group t)

-- a text with its first group of digits written by a rule
abbrev pub ruled_text : (rule prefix t : List ℕ) → List ℕ
ruled_text rule prefix t = ruled_by rule prefix t (group_in t)

-- the rule by which a territory lays out digits at home
abbrev pub rule_in : Metadata → List ℕ → Option (List ℕ)
rule_in m digits = option_and_then (λ (f : Format). f.national_prefix_formatting_rule)
    (layout_in m digits)

-- a text with its first group of digits written by that rule, where there is one
abbrev pub ruled_in : Metadata → (digits t : List ℕ) → List ℕ
ruled_in m digits t =
    option_map_or (λ rule. ruled_text rule (unwrap_or m.national_prefix []) t) (rule_in m digits) t

-- at home, that is in a territory of the number's code: between regions of the code 1 behind the
-- digit 1 and a space, else by the rule of the territory
abbrev pub home_letters : Metadata → Reading → List ℕ → List ℕ
home_letters m n t = if n.code.value == 1 then codes "1 " ++ t
    else ruled_in m (text_of n.national) t

-- the international prefix that is dialled before letters: where a territory has a single one,
-- that, else the preferred one
abbrev pub lettered_prefix : Metadata → Option (List ℕ)
lettered_prefix m = option_or (single_prefix m) (preferred_prefix m)

-- from abroad: code, text and extension behind the prefix of the territory that is dialled from
abbrev pub abroad_letters : Option Metadata → (first : Metadata) → Reading → List ℕ → List ℕ
abroad_letters from first n t = behind_prefix (option_and_then lettered_prefix from)
    ((decimal n.code.value ++ 32 ∷ t) ++ extension_part first (extension_told n.extension))

-- a territory, where it is one of the code
abbrev pub if_of : ℕ → Metadata → Option Metadata
if_of code m = if code_of m == code then Some m else None

-- the territory that is dialled from, where it is at home for the code
abbrev pub at_home : ℕ → Option Metadata → Option Metadata
at_home code from = option_and_then (if_of code) from

-- a number of a listed code, dialled from where this may be the territory, of whose text that much
-- is kept: at home as it is kept, from abroad without the extension that is written there
pub data IsKept (first : Metadata) (n : Reading) (t : List ℕ) (from : Option Metadata) :
    List ℕ → Type 0 where
  home : (m : Metadata) → at_home n.code.value from ≡ Some m →
      IsKept first n t from (home_letters m n t)
  abroad : (number : List ℕ) (extension : Option (List ℕ)) →
      at_home n.code.value from ≡ None → HasNumber (chars t) number extension →
      IsKept first n t from (abroad_letters from first n (encode_utf8_all number))

-- a number dialled from a region with the letters of its text; without a text, or of an empty one,
-- as any number is dialled; of a code that isn't listed the text as it stands
pub data IsLettered (db : List Metadata) (from : Option Id) (n : Reading) :
    Option (List ℕ) → List ℕ → Type 0 where
  unread : IsLettered db from n None (dialled_text db from None n)
  unlisted : (raw : List ℕ) → first_of (territories n.code.value db) ≡ None →
      IsLettered db from n (Some raw) raw
  kept : (raw t : List ℕ) (first : Metadata) →
      first_of (territories n.code.value db) ≡ Some first →
      IsKept first n (written raw (text_of n.national)) (option_and_then (territory_of db) from) t →
      IsLettered db from n (Some raw) t
