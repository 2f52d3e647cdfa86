-- The texts of a number in one line: fields parted by one tab.
use Rattle.std.specs.Prelude.{ℕ, List, [], ◌∷◌, ◌++◌, chars, codes, Option, encode_utf8_all}
use Rattle.phone_values.specs.declared.mode.Mode.TheVariants.{E164, International, National}
use Rattle.phone_values.specs.declared.mode.Mode.TheVariants.{Rfc3966}
use Rattle.phone_values.specs.declared.reading.Reading.{Reading}
use Rattle.phone_records.specs.declared.loader.Format.{Format}
use Rattle.phone_records.specs.declared.loader.Metadata.{Metadata}
use Rattle.phone_values.specs.declared.rules.Rules.{Rules}
use Rattle.phone_values.specs.declared.rules.Rules.TheVariants.{Crate}
use Rattle.phone_print.specs.Texts.{extension_parameter, extension_part, hyphenated, text_by_rules}

-- the fields, parted by tabs
abbrev pub tabbed : List (List ℕ) → List ℕ
tabbed [] = []
tabbed (field ∷ []) = field
tabbed (field ∷ next ∷ fields) = field ++ 9 ∷ tabbed (next ∷ fields)

-- the texts in the four modes, by a territory and these rules
abbrev pub texts_by_rules : Rules → Metadata → Option Format → Reading → List ℕ
texts_by_rules rules m own n = tabbed (text_by_rules rules m E164 own n ∷
    text_by_rules rules m International own n ∷ text_by_rules rules m National own n ∷
    text_by_rules rules m Rfc3966 own n ∷ [])

-- the same by the crate's rules
abbrev pub texts_by : Metadata → Option Format → Reading → List ℕ
texts_by m own n = texts_by_rules Crate m own n

-- the texts of a number whose code and digits are written so, laid out so abroad and at home
abbrev pub texts_laid : Metadata → Reading → (code digits abroad at_home : List ℕ) → List ℕ
texts_laid m n code digits abroad at_home = tabbed (
    (43 ∷ (code ++ digits)) ∷
    (43 ∷ (code ++ 32 ∷ (abroad ++ extension_part m n.extension))) ∷
    (at_home ++ extension_part m n.extension) ∷
    (codes "tel:+" ++ (code ++ 45 ∷ (encode_utf8_all (hyphenated (chars abroad)) ++
    extension_parameter n.extension))) ∷ [])
