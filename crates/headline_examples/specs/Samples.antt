-- The databases B, C, D and E of the replayed tables, territory by territory, and numbers.
use Rattle.std.specs.Prelude.{ℕ, true, List, [], ◌∷◌, codes, Option, None, Some}
use Rattle.phone_values.specs.declared.country.Source.TheVariants.{Default}
use Rattle.phone_read.specs.Hints.{Coded}
use Rattle.phone_records.specs.Empty.{no_descriptor, no_format, no_metadata}
use Rattle.phone_records.specs.declared.loader.Descriptor.{Descriptor}
use Rattle.phone_records.specs.declared.loader.Format.{Format}
use Rattle.phone_records.specs.declared.loader.Metadata.{Metadata}
use Rattle.phone_values.specs.declared.reading.Reading.{Reading}

-- numbers of a pattern, and of so many digits
abbrev pub numbers : List ℕ → ℕ → Descriptor
numbers pattern count =
    record no_descriptor { national_number = Some pattern; possible_length = count ∷ [] }

-- digits grouped by a pattern and laid out by a template
abbrev pub layout : List ℕ → List ℕ → Format
layout pattern template = record no_format { pattern = Some pattern; format = Some template }

-- a territory with an id, a calling code and its numbers in general
abbrev pub territory : List ℕ → ℕ → Descriptor → Metadata
territory id code general =
    record no_metadata { general = Some general; id = Some id; country_code = Some code }

-- New Zealand's layout, meant for numbers that a 3 leads
abbrev pub nz_layout : Format
nz_layout = record (layout (codes "(\\d)(\\d{3})(\\d{4})") (codes "$1 $2 $3")) {
  leading_digits = codes "3" ∷ [];
  national_prefix_formatting_rule = Some (codes "$NP$FG");
}

-- New Zealand, with the national prefix 0
abbrev pub nz : Metadata
nz = record (territory (codes "NZ") 64 (numbers (codes "\\d{8}") 8)) {
  fixed_line = Some (numbers (codes "3\\d{7}") 8);
  international_prefix = Some (codes "00");
  national_prefix = Some (codes "0");
  formats = nz_layout ∷ [];
}

-- the numbers of the United States
abbrev pub us_numbers : Descriptor
us_numbers = numbers (codes "[2-9]\\d{9}") 10

-- the United States, the main territory of its code
abbrev pub us : Metadata
us = record (territory (codes "US") 1 (record us_numbers { possible_local_length = 7 ∷ [] })) {
  fixed_line = Some us_numbers;
  mobile = Some us_numbers;
  international_prefix = Some (codes "011");
  national_prefix = Some (codes "1");
  formats = layout (codes "(\\d{3})(\\d{3})(\\d{4})") (codes "($1) $2-$3") ∷ [];
  international_formats = layout (codes "(\\d{3})(\\d{3})(\\d{4})") (codes "$1-$2-$3") ∷ [];
  main_country_for_code = true;
}

-- a service of its own code
abbrev pub free_phone : Metadata
free_phone = record (territory (codes "001") 800 (numbers (codes "\\d{8}") 8)) {
  toll_free = Some (numbers (codes "\\d{8}") 8);
}

-- the database B
abbrev pub db_b : List Metadata
db_b = nz ∷ us ∷ free_phone ∷ []

-- Brazil's layout, with a rule for carriers
abbrev pub br_layout : Format
br_layout = record (layout (codes "(\\d{2})(\\d{8})") (codes "$1 $2")) {
  national_prefix_formatting_rule = Some (codes "$NP$FG");
  domestic_carrier = Some (codes "$NP $CC ($FG)");
}

-- Brazil, whose carriers stand behind the national prefix
abbrev pub br : Metadata
br = record (territory (codes "BR") 55 (numbers (codes "\\d{10}") 10)) {
  national_prefix = Some (codes "0");
  national_prefix_for_parsing = Some (codes "0(?:(1[245])(\\d{10}))?");
  national_prefix_transform_rule = Some (codes "$2");
  formats = br_layout ∷ [];
}

-- Albania, whose transform rule names a group that may take no part
abbrev pub al : Metadata
al = record (territory (codes "AL") 355 (numbers (codes "\\d{7}") 7)) {
  national_prefix_for_parsing = Some (codes "0(?:(1)|(2))");
  national_prefix_transform_rule = Some (codes "5$2");
}

-- Ascension, whose transform rule writes a plus sign
abbrev pub ac : Metadata
ac = record (territory (codes "AC") 247 (numbers (codes "\\d{3}") 3)) {
  national_prefix_for_parsing = Some (codes "9(\\d+)");
  national_prefix_transform_rule = Some (codes "+0$1");
}

-- Armenia's layout, which drops the digits
abbrev pub am_layout : Format
am_layout = record (layout (codes "\\d{8}") (codes "number")) {
  national_prefix_formatting_rule = Some (codes "$NP$FG");
}

-- Armenia
abbrev pub am : Metadata
am = record (territory (codes "AM") 374 (numbers (codes "\\d{8}") 8)) { formats = am_layout ∷ [] }

-- a territory of code 870
abbrev pub satellite : List ℕ → Metadata
satellite id = record (territory id 870 (numbers (codes "\\d{8}") 8)) {
  fixed_line = Some (numbers (codes "\\d{8}") 8);
}

-- a territory of six digits whose layout joins two halves by a template
abbrev pub in_halves : List ℕ → ℕ → List ℕ → Metadata
in_halves id code template = record (territory id code (numbers (codes "\\d{6}") 6)) {
  formats = layout (codes "(\\d{3})(\\d{3})") template ∷ [];
}

-- Andorra, whose layout ends in a slash
abbrev pub ad : Metadata
ad = in_halves (codes "AD") 376 (codes "$1/$2/")

-- Austria, whose layout writes an `x`
abbrev pub at : Metadata
at = in_halves (codes "AT") 43 (codes "${1}x$2")

-- the database C
abbrev pub db_c : List Metadata
db_c = br ∷ al ∷ ac ∷ am ∷ satellite (codes "001") ∷ satellite (codes "QQ") ∷ ad ∷ at ∷ []

-- a territory of six digits in halves, which announces extensions by a prefix of its own
abbrev pub announcing : List ℕ → ℕ → List ℕ → List ℕ → Metadata
announcing id code template prefix =
    record (in_halves id code template) { preferred_extension_prefix = Some prefix }

-- Andorra, which announces by an `x`
abbrev pub ad_by_x : Metadata
ad_by_x = announcing (codes "AD") 376 (codes "$1 $2") (codes " x")

-- Armenia, which announces by a word
abbrev pub am_by_anexo : Metadata
am_by_anexo = announcing (codes "AM") 374 (codes "$1 $2") (codes " anexo ")

-- Albania, which announces by a letter that no reader takes for an indicator
abbrev pub al_by_e : Metadata
al_by_e = announcing (codes "AL") 355 (codes "$1 $2") (codes " e ")

-- Austria, whose layout ends in a slash
abbrev pub at_by_x : Metadata
at_by_x = announcing (codes "AT") 43 (codes "$1/$2/") (codes " x")

-- the database E
abbrev pub db_e : List Metadata
db_e = ad_by_x ∷ am_by_anexo ∷ al_by_e ∷ at_by_x ∷ []

-- Anguilla, with a code that begins another
abbrev pub ai : Metadata
ai = territory (codes "AI") 3 (numbers (codes "\\d{8}") 8)

-- Andorra without a layout
abbrev pub bare_ad : Metadata
bare_ad = territory (codes "AD") 376 (numbers (codes "\\d{6}") 6)

-- Argentina, with a code of four digits
abbrev pub ar : Metadata
ar = territory (codes "AR") 1234 (numbers (codes "\\d{6}") 6)

-- the database D
abbrev pub db_d : List Metadata
db_d = ai ∷ bare_ad ∷ ar ∷ []

-- North Korea, whose international prefixes are two, so that a plus sign is dialled there
abbrev pub kp : Metadata
kp = record (territory (codes "KP") 850 (numbers (codes "\\d{8}") 8)) {
  international_prefix = Some (codes "00|99");
  national_prefix = Some (codes "0");
}

-- North Korea and New Zealand
abbrev pub db_kp : List Metadata
db_kp = kp ∷ nz ∷ []

-- the short numbers of New Zealand: its emergency number alone
abbrev pub nz_short : Metadata
nz_short = record (territory (codes "NZ") 64 (numbers (codes "111") 3)) {
  short_code = Some (numbers (codes "111") 3);
  emergency = Some (numbers (codes "111") 3);
}

-- the database of short numbers
abbrev pub db_short : List Metadata
db_short = nz_short ∷ []

-- the layout of fifteen digits, the first three apart
abbrev pub long_layout : Format
long_layout = layout (codes "(\\d{3})(\\d{12})") (codes "$1 $2")

-- a territory of such numbers
abbrev pub long_numbers : Metadata
long_numbers = record (territory (codes "001") 979 (numbers (codes "\\d{15}") 15)) {
  formats = long_layout ∷ [];
}

-- a number of a calling code: zeros, a value, perhaps an extension
abbrev pub number : ℕ → ℕ → ℕ → Option (List ℕ) → Reading
number code zeros value extension = record {
  code = record { value = code; source = Default };
  national = record { zeros = zeros; value = value };
  extension = extension;
  carrier = None;
}

-- a number of New Zealand with the extension 5
abbrev pub extended : Reading
extended = number 64 0 33316005 (Some (codes "5"))

-- a number of fifteen digits
abbrev pub long_number : Reading
long_number = number 979 0 333199999999999 None

-- what follows New Zealand's code, which the hint tells, where the national prefix is dialled
abbrev pub dialled_at_home : Coded
dialled_at_home = record { source = Default; value = 64; rest = codes "033316005" }
