-- What a number is printed as, by whose rules: after E.164, RFC 3966, section 3, the original's
-- `formatter`, and libphonenumber's choice of a layout.
use Rattle.std.specs.Prelude.{ℕ, List, [], ◌∷◌, ◌++◌, codes, chars, encode_utf8_all, if◌then◌else◌}
use Rattle.std.specs.Prelude.{Option, None, Some, unwrap_or}
use Rattle.std.specs.Fmt.{decimal}
use Rattle.phone_chars.specs.Characters.{is_separator}
use Rattle.phone_values.specs.Numbers.{text_of}
use Rattle.phone_values.specs.declared.mode.Mode.{Mode}
use Rattle.phone_values.specs.declared.mode.Mode.TheVariants.{E164, International, National}
use Rattle.phone_values.specs.declared.mode.Mode.TheVariants.{Rfc3966}
use Rattle.phone_records.specs.declared.loader.Format.{Format}
use Rattle.phone_records.specs.declared.loader.Metadata.{Metadata}
use Rattle.phone_parts.specs.Texts.{begins}
use Rattle.phone_values.specs.declared.reading.Reading.{Reading}
use Rattle.phone_values.specs.declared.rules.Rules.{Rules}
use Rattle.phone_values.specs.declared.rules.Rules.TheVariants.{Crate}
use Rattle.phone_print.specs.Layouts.{laid, layout_by}

-- the national number laid out by the territory, in a mode, with the layout that was handed in
-- where there is one, else with the one that these rules choose
abbrev pub laid_out_by : Rules → Metadata → Mode → Option Format → Reading → List ℕ
laid_out_by rules m mode own n = laid (layout_by rules m mode own (text_of n.national)) m mode
    n.carrier (text_of n.national)

-- the same by the crate's rules
abbrev pub laid_out : Metadata → Mode → Option Format → Reading → List ℕ
laid_out m mode own n = laid_out_by Crate m mode own n

-- an extension is announced by the territory's preferred prefix, else by ` ext. `
abbrev pub extension_part : Metadata → Option (List ℕ) → List ℕ
extension_part m None = []
extension_part m (Some e) = unwrap_or m.preferred_extension_prefix (codes " ext. ") ++ e

-- after RFC 3966 it is announced by `;ext=`
abbrev pub extension_parameter : Option (List ℕ) → List ℕ
extension_parameter None = []
extension_parameter (Some e) = codes ";ext=" ++ e

-- each longest run of separators made one hyphen: of separators side by side the last becomes the
-- hyphen, the others vanish
abbrev pub hyphenated : List ℕ → List ℕ
hyphenated [] = []
hyphenated (c ∷ cs) = if is_separator c
    then (if begins is_separator cs then hyphenated cs else 45 ∷ hyphenated cs)
    else c ∷ hyphenated cs

-- the E.164 text: a plus sign, the calling code, the national number with its zeros
abbrev pub e164_text : Reading → List ℕ
e164_text n = 43 ∷ (decimal n.code.value ++ text_of n.national)

-- the international text: a plus sign, the code, a space, the number laid out, the extension
abbrev pub international_by : Rules → Metadata → Option Format → Reading → List ℕ
international_by rules m own n = 43 ∷ (decimal n.code.value ++
    32 ∷ (laid_out_by rules m International own n ++ extension_part m n.extension))

-- the national text: the number laid out by its rule, the extension
abbrev pub national_by : Rules → Metadata → Option Format → Reading → List ℕ
national_by rules m own n =
    laid_out_by rules m National own n ++ extension_part m n.extension

-- the text of RFC 3966: `tel:+`, the code, a hyphen, the number laid out with its separators made
-- hyphens, the extension as a parameter
abbrev pub rfc3966_by : Rules → Metadata → Option Format → Reading → List ℕ
rfc3966_by rules m own n =
    codes "tel:+" ++ (decimal n.code.value ++ 45 ∷
    (encode_utf8_all (hyphenated (chars (laid_out_by rules m Rfc3966 own n))) ++
    extension_parameter n.extension))

-- the text in a mode, by a territory and these rules
abbrev pub text_by_rules : Rules → Metadata → Mode → Option Format → Reading → List ℕ
text_by_rules rules m E164 own n = e164_text n
text_by_rules rules m International own n = international_by rules m own n
text_by_rules rules m National own n = national_by rules m own n
text_by_rules rules m Rfc3966 own n = rfc3966_by rules m own n

-- the texts by the crate's rules: the international one
abbrev pub international_text : Metadata → Option Format → Reading → List ℕ
international_text m own n = international_by Crate m own n

-- the national one
abbrev pub national_text : Metadata → Option Format → Reading → List ℕ
national_text m own n = national_by Crate m own n

-- that of RFC 3966
abbrev pub rfc3966_text : Metadata → Option Format → Reading → List ℕ
rfc3966_text m own n = rfc3966_by Crate m own n

-- that of a mode
abbrev pub text_by : Metadata → Mode → Option Format → Reading → List ℕ
text_by m mode own n = text_by_rules Crate m mode own n
