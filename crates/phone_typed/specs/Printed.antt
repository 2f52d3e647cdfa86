-- Numbers whose printed text stands at the end of what is typed.
use Rattle.std.specs.Prelude.{◌≡◌, ◌==◌, ◌||◌, true, false, ℕ, List, ◌∷◌, ◌++◌, filter, None, Some}
use Rattle.std.specs.Prelude.{Option}
use Rattle.std.specs.Fmt.{decimal}
use Rattle.std.specs.List.{find}
use Rattle.phone_values.specs.Numbers.{text_of}
use Rattle.phone_values.specs.declared.country.Id.{Id}
use Rattle.phone_values.specs.declared.mode.Mode.{Mode}
use Rattle.phone_values.specs.declared.mode.Mode.TheVariants.{International, National}
use Rattle.phone_values.specs.declared.reading.Reading.{Reading}
use Rattle.phone_plans.specs.CodeLookUps.{first_of, shortest, territories}
use Rattle.phone_read.specs.Strips.{step}
use Rattle.phone_print.specs.Layouts.{layouts_for}
use Rattle.phone_print.specs.Texts.{laid_out, national_text}
use Rattle.phone_records.specs.declared.loader.Format.{Format}
use Rattle.phone_records.specs.declared.loader.Metadata.{Metadata}
use Rattle.phone_territory.specs.First.{is_whole_match}
use Rattle.phone_territory.specs.Layouts.{layout_pattern, suits}
use Rattle.phone_typed.specs.Keys.{is_key, shows}
use Rattle.phone_typed.specs.Typed.{is_short, layout_territory}

-- a plain number, without extension and carrier, that a territory prints in a mode by a layout
-- whose pattern matches its digits whole, and as nothing but these keys and marks; its digits are
-- three or more
pub record IsPlain (m : Metadata) (mode : Mode) (n : Reading) (keys : List ℕ) : Type 0 where
  pub no_extension : n.extension ≡ None
  pub no_carrier : n.carrier ≡ None
  pub layout : Format
  pub first : find (suits (text_of n.national)) (layouts_for m mode) ≡ Some layout
  pub whole : is_whole_match (layout_pattern layout) (text_of n.national) ≡ true
  pub shown : shows keys (laid_out m mode None n) ≡ true
  pub long_enough : (is_short (text_of n.national) || is_short keys) ≡ false

-- after a plus sign: the number's code is found, and m is the first territory of it
pub record IsPlainAbroad (db : List Metadata) (m : Metadata) (n : Reading) : Type 0 where
  pub code : shortest db (decimal n.code.value ++ text_of n.national) ≡ Some n.code.value
  pub territory : first_of (territories n.code.value db) ≡ Some m
  pub plain : IsPlain m International n (text_of n.national)

-- the digits of a national text
abbrev pub national_keys : Metadata → Reading → List ℕ
national_keys m n = filter is_key (national_text m None n)

-- in a territory: m is the hint's, and its rules leave the number of the digits of the national
-- text, which doesn't begin with a plus sign
pub record IsPlainAtHome (db : List Metadata) (hint : Option Id) (m : Metadata) (n : Reading) :
    Type 0 where
  pub territory : layout_territory db hint ≡ Some m
  pub first_key : ℕ
  pub other_keys : List ℕ
  pub keys : national_keys m n ≡ first_key ∷ other_keys
  pub no_sign : (first_key == 43) ≡ false
  pub left : (step m (national_keys m n) None).national ≡ text_of n.national
  pub plain : IsPlain m National n (national_keys m n)
