-- What the report says of one line of its input, by whose rules: fields parted by one tab.
use Rattle.std.specs.Prelude.{◌≡◌, ℕ, List, [], ◌∷◌, chars, codes, Option, Some, None, Ok, Err}
use Rattle.std.specs.Str.{IsUtf8}
use Rattle.phone_engine.specs.Facts.{is_valid_by, kind_by, printed_as, region_by}
use Rattle.phone_engine.specs.Readings.{ReadsBy}
use Rattle.phone_values.specs.declared.rules.Rules.{Rules}
use Rattle.phone_plans.specs.CodeLookUps.{first_of, territories}
use Rattle.phone_print.specs.Tabbed.{tabbed}
use Rattle.phone_print.specs.Texts.{text_by_rules}
use Rattle.phone_records.specs.declared.loader.Metadata.{Metadata}
use Rattle.phone_values.specs.declared.country.Id.{Id}
use Rattle.phone_values.specs.declared.error.ParseError.{ParseError}
use Rattle.phone_values.specs.declared.mode.Mode.TheVariants.{E164, International, National}
use Rattle.phone_values.specs.declared.mode.Mode.TheVariants.{Rfc3966}
use Rattle.phone_values.specs.declared.reading.Reading.{Reading}
use Rattle.phone_engine.specs.Words.{kind_word, refusal_line, region_word, source_word}
use Rattle.phone_engine.specs.Words.{validity_word}

-- what is known of a number, word by word: the end of its line
abbrev pub known_words : Rules → List Metadata → Reading → List (List ℕ)
known_words rules db n = source_word n.code.source ∷ kind_word (kind_by rules db n) ∷
    region_word (region_by rules db n) ∷ validity_word (is_valid_by rules db n) ∷ []

-- the line of a number of a listed code: its texts in the four modes, printed as these rules have
-- it, then what is known of it by them
abbrev pub number_line : Rules → List Metadata → Metadata → Reading → List ℕ
number_line rules db m n = tabbed (codes "ok" ∷
    text_by_rules rules m E164 None (printed_as rules n) ∷
    text_by_rules rules m International None (printed_as rules n) ∷
    text_by_rules rules m National None (printed_as rules n) ∷
    text_by_rules rules m Rfc3966 None (printed_as rules n) ∷ known_words rules db n)

-- what the report says of one line: bytes that are no text, a refusal, or a number
pub data IsReportLine (rules : Rules) (db : List Metadata) (hint : Option Id)
    (line : List ℕ) : List ℕ → Type 0 where
  no_text : ¬ (IsUtf8 line) → IsReportLine rules db hint line
      (tabbed (codes "error" ∷ codes "0" ∷ codes "not UTF-8" ∷ []))
  refused : (e : ParseError) → IsUtf8 line → ReadsBy rules db hint (chars line) (Err e) →
      IsReportLine rules db hint line (refusal_line e)
  read : (n : Reading) (m : Metadata) → IsUtf8 line → ReadsBy rules db hint (chars line) (Ok n) →
      first_of (territories n.code.value db) ≡ Some m →
      IsReportLine rules db hint line (number_line rules db m n)
