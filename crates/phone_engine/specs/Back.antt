-- Which dialled numbers are read back under the region as hint: the premises.
use Rattle.std.specs.Prelude.{◌≡◌, ◌⊎◌, ℕ, ◌≤◌, ◌==◌, false, true, List, ◌++◌, length}
use Rattle.std.specs.Prelude.{None, Some, Ok}
use Rattle.std.specs.Fmt.{decimal}
use Rattle.std.specs.List.{list_all}
use Rattle.phone_chars.specs.Characters.{is_digit}
use Rattle.phone_values.specs.Ids.{name}
use Rattle.phone_values.specs.Numbers.{text_of}
use Rattle.phone_values.specs.declared.country.Id.{Id}
use Rattle.phone_values.specs.declared.country.Source.{Source}
use Rattle.phone_territory.specs.Records.{code_of}
use Rattle.phone_plans.specs.CodeLookUps.{is_prefix_free}
use Rattle.phone_plans.specs.Records.{last_with}
use Rattle.phone_records.specs.declared.loader.Metadata.{Metadata}
use Rattle.phone_read.specs.Dialling.{after_match, found_in}
use Rattle.phone_read.specs.Readings.{Reads}
use Rattle.phone_read.specs.Strips.{strip}
use Rattle.phone_values.specs.declared.reading.Reading.{Reading}
use Rattle.phonenumber.specs.RoundTrips.{IsSame}
use Rattle.phonenumber.specs.Plain.{IsAnnouncedSafely, IsPlainInternational}
use Rattle.phone_engine.specs.Dialled.{dialled_prefix}

-- with the region as hint, the text is read as a number that is n, with its extension, whose code
-- was found so
abbrev pub IsReadUnder : List Metadata → Id → List ℕ → Reading → Source → Type 0
IsReadUnder db region t n source = (m : Reading) × (Reads db (Some region) t (Ok m)) ×
    (IsSame n n.extension m) × (m.code.source ≡ source)

-- the digits of a number behind its code
abbrev pub coded_digits : Reading → List ℕ
coded_digits n = decimal n.code.value ++ text_of n.national

-- a number that is plain for international text, with an extension, if any, that is announced
-- safely, is dialled from a region of another code, whose rules leave its digits alone; its code
-- has one to three digits, and no listed code begins another
pub record IsPlainDialled (db : List Metadata) (region : Id) (n : Reading) : Type 0 where
  pub from : Metadata
  pub hinted : last_with (name region) db ≡ Some from
  pub other_code : (code_of from == n.code.value) ≡ false
  pub plain : IsPlainInternational db n
  pub announced : (n.extension ≡ None) ⊎ IsAnnouncedSafely plain.territory n
  pub some_code : 1 ≤ n.code.value
  pub few_digits : n.code.value ≤ 999
  pub prefix_free : is_prefix_free db ≡ true
  pub idle : (strip from (text_of n.national)).national ≡ text_of n.national

-- a prefix of digits is dialled, and in front of the digits behind it the territory's pattern of
-- international prefixes finds it, and neither more nor less
pub record IsAfterPrefix (from : Metadata) (n : Reading) : Type 0 where
  pub prefix : List ℕ
  pub dialled : dialled_prefix from ≡ Some prefix
  pub digits : list_all is_digit prefix ≡ true
  pub found : found_in from.international_prefix (prefix ++ coded_digits n) ≡
      Some (0, length prefix)

-- a plus sign is written, and no international prefix of the territory stands in front of the
-- digits behind it
pub record IsAfterPlus (from : Metadata) (n : Reading) : Type 0 where
  pub dialled : dialled_prefix from ≡ None
  pub not_found : after_match (coded_digits n)
      (found_in from.international_prefix (coded_digits n)) ≡ None
