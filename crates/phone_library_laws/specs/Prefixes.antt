-- How digits stand for a national number in a territory: alone, or behind the national prefix, with
-- no carrier's code and nothing that is written anew.
use Rattle.std.specs.Prelude.{◌≡◌, ◌≤◌, ◌==◌, ℕ, true, false, List, ◌++◌, length}
use Rattle.std.specs.Prelude.{Option, None, Some}
use Rattle.std.specs.Fmt.{decimal}
use Rattle.std.specs.List.{list_all}
use Rattle.std.specs.Option.{option_map_or}
use Rattle.phone_chars.specs.Characters.{is_digit}
use Rattle.phone_values.specs.declared.country.Id.{Id}
use Rattle.phone_library.specs.Kinds.{matches_whole}
use Rattle.phone_library.specs.Lengths.{length_in, may_be_left}
use Rattle.phone_library.specs.Readings as second
use Rattle.phone_library_laws.specs.Agreement.{after_prefix}
use Rattle.phone_library_text.specs.Written.{most_characters}
use Rattle.phone_parts.specs.Texts.{is_front}
use Rattle.phone_read.specs.Hints.{Coded, hinted}
use Rattle.phone_read.specs.Readings as first
use Rattle.phone_records.specs.declared.loader.Metadata.{Metadata}
use Rattle.phone_territory.specs.First.{Captured, at_start, captured}
use Rattle.phone_territory.specs.Records.{code_of}

-- neither the national prefix stands at the front of the digits, nor a match of the parsing pattern
pub record IsBare (m : Metadata) (digits : List ℕ) : Type 0 where
  pub no_prefix : option_map_or (λ prefix. is_front prefix digits) m.national_prefix false ≡ false
  pub no_match : option_map_or (λ pattern. at_start pattern digits) m.national_prefix_for_parsing
      false ≡ false

-- so many bytes at the front are matched, and neither the first group nor the last takes part
abbrev pub front_alone : ℕ → Captured
front_alone n = record { span = (0, n); first = None; last = None }

-- the national prefix stands once before a national number, and a parsing pattern, if there is one,
-- matches the prefix alone; the number has as many digits as one of the territory can have, or
-- more, and is of the general pattern if the digits are so with the prefix
pub record IsPrefixed (m : Metadata) (digits national : List ℕ) : Type 0 where
  pub prefix : List ℕ
  pub is_prefix : m.national_prefix ≡ Some prefix
  pub whole : digits ≡ prefix ++ national
  pub once : is_front prefix national ≡ false
  pub by_pattern : (pattern : List ℕ) → m.national_prefix_for_parsing ≡ Some pattern →
      captured pattern digits ≡ Some (front_alone (length prefix))
  pub enough : may_be_left (length_in m (length national)) ≡ true
  pub general : matches_whole m.general digits ≡ true → matches_whole m.general national ≡ true

-- digits are dialled for a national number: alone, or behind the national prefix; alone where
-- there is no territory
pub data IsDialledFor : Option Metadata → List ℕ → List ℕ → Type 0 where
  unknown : (digits : List ℕ) → IsDialledFor None digits digits
  bare : (m : Metadata) (digits : List ℕ) → IsBare m digits → IsDialledFor (Some m) digits digits
  prefixed : (m : Metadata) (digits national : List ℕ) → IsPrefixed m digits national →
      IsDialledFor (Some m) digits national

-- what follows a calling code, two digits at least, is dialled for a national number, not zeros
-- alone, in the territory that strips it by the first reading and in that by the second
pub record IsDialledAlike (db : List Metadata) (hint : Option Id) (c : Coded) : Type 0 where
  pub national : List ℕ
  pub two : 2 ≤ length c.rest
  pub by_first : IsDialledFor (first.stripping_territory db hint c) c.rest national
  pub by_second : IsDialledFor (second.stripping_territory db (hinted db hint) c) c.rest
      national
  pub not_zeros : list_all (λ d. d == 48) national ≡ false

-- three ASCII digits and more are dialled in the hint's territory for a national number, not zeros
-- alone; they begin neither with the territory's international prefix nor with its code
pub record IsHomeNumber (db : List Metadata) (hint : Option Id) (digits : List ℕ) : Type 0 where
  pub territory : Metadata
  pub national : List ℕ
  pub is_hint : hinted db hint ≡ Some territory
  pub dialled : IsDialledFor (Some territory) digits national
  pub digits_alone : list_all is_digit digits ≡ true
  pub enough : 3 ≤ length digits
  pub few : length digits ≤ most_characters
  pub not_zeros : list_all (λ d. d == 48) national ≡ false
  pub not_international : after_prefix (Some territory) digits ≡ None
  pub no_code : is_front (decimal (code_of territory)) digits ≡ false
