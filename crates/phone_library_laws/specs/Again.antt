-- Which numbers are read again from their E.164 text, and as what.
use Rattle.std.specs.Prelude.{◌≡◌, ◌≤◌, true, List, length, None}
use Rattle.phone_values.specs.Numbers.{IsHeld, text_of}
use Rattle.phone_values.specs.declared.country.Source.TheVariants.{Plus}
use Rattle.phone_values.specs.declared.reading.Reading.{Reading}
use Rattle.phone_library.specs.Readings.{stripped}
use Rattle.phone_library.specs.Stripping.{untouched}
use Rattle.phone_plans.specs.CodeLookUps.{first_of, is_listed, is_prefix_free, territories}
use Rattle.phone_records.specs.declared.loader.Metadata.{Metadata}

-- the number's code is listed and has at most three digits, no listed code begins another, its
-- national number has 2 to 17 digits, and the code's first territory strips nothing off them
pub record IsSettled (db : List Metadata) (n : Reading) : Type 0 where
  pub prefix_free : is_prefix_free db ≡ true
  pub listed : is_listed n.code.value db ≡ true
  pub some_code : 1 ≤ n.code.value
  pub short_code : n.code.value ≤ 999
  pub held : IsHeld n.national
  pub long_enough : 2 ≤ length (text_of n.national)
  pub short_enough : length (text_of n.national) ≤ 17
  pub idle : stripped (first_of (territories n.code.value db)) (text_of n.national)
      ≡ untouched (text_of n.national)

-- of a number that was read, the rest of that
pub record IsSettledIfRead (db : List Metadata) (n : Reading) : Type 0 where
  pub prefix_free : is_prefix_free db ≡ true
  pub some_code : 1 ≤ n.code.value
  pub short_code : n.code.value ≤ 999
  pub idle : stripped (first_of (territories n.code.value db)) (text_of n.national)
      ≡ untouched (text_of n.national)

-- the number as its E.164 text tells it: by a plus sign, without extension and carrier
abbrev pub e164_reading : Reading → Reading
e164_reading n = record {
  code = record { value = n.code.value; source = Plus };
  national = n.national;
  extension = None;
  carrier = None;
}
