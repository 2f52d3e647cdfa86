-- Which numbers are read behind a plus sign as they are, unless something is stripped off them.
use Rattle.std.specs.Prelude.{◌≡◌, ◌≤◌, true, List, length}
use Rattle.phone_values.specs.Numbers.{IsHeld, text_of}
use Rattle.phone_values.specs.declared.reading.Reading.{Reading}
use Rattle.phone_library.specs.Readings.{stripped}
use Rattle.phone_library.specs.Stripping.{untouched}
use Rattle.phone_plans.specs.CodeLookUps.{first_of, is_listed, is_prefix_free, territories}
use Rattle.phone_records.specs.declared.loader.Metadata.{Metadata}

-- what a settled number is but for stripping: its code is listed and has at most three digits, no
-- listed code begins another, and its national number has 2 to 17 digits
pub record IsCoded (db : List Metadata) (n : Reading) : Type 0 where
  pub prefix_free : is_prefix_free db ≡ true
  pub listed : is_listed n.code.value db ≡ true
  pub some_code : 1 ≤ n.code.value
  pub short_code : n.code.value ≤ 999
  pub held : IsHeld n.national
  pub long_enough : 2 ≤ length (text_of n.national)
  pub short_enough : length (text_of n.national) ≤ 17

-- the code's first territory strips nothing off the national number
abbrev pub IsLeftAlone : List Metadata → Reading → Type 0
IsLeftAlone db n = stripped (first_of (territories n.code.value db)) (text_of n.national)
    ≡ untouched (text_of n.national)
