-- The text of a number in a mode, where the text that it was read from may be known: as
-- libphonenumber prints it.
use Rattle.std.specs.Prelude.{ℕ, ◌==◌, if◌then◌else◌, List, [], ◌∷◌, ◌++◌, Option, None, Some}
use Rattle.std.specs.Prelude.{unwrap_or}
use Rattle.std.specs.Fmt.{decimal}
use Rattle.std.specs.Option.{option_map_or}
use Rattle.phone_values.specs.Numbers.{text_of}
use Rattle.phone_values.specs.declared.country.Source.{Source}
use Rattle.phone_values.specs.declared.country.Source.TheVariants.{Default, Idd, Plus}
use Rattle.phone_values.specs.declared.country.Source.TheVariants.{Number}
use Rattle.phone_values.specs.declared.mode.Mode.{Mode}
use Rattle.phone_values.specs.declared.mode.Mode.TheVariants.{E164, International, National}
use Rattle.phone_values.specs.declared.mode.Mode.TheVariants.{Rfc3966}
use Rattle.phone_values.specs.declared.reading.Reading.{Reading}
use Rattle.phone_values.specs.declared.rules.Rules.TheVariants.{Library}
use Rattle.phone_library.specs.Printed.{printed_by}
use Rattle.phone_print.specs.Texts.{e164_text}
use Rattle.phone_records.specs.declared.loader.Metadata.{Metadata}
use Rattle.phone_questions.specs.Matches.{extension_told}

-- a number that is printed without a carrier; an empty extension is none
abbrev pub plain : Reading → Reading
plain n = record n { extension = extension_told n.extension; carrier = None }

-- what stands for a number whose code isn't listed: the E.164 text, in the other modes its digits
abbrev pub unlisted_text : Mode → Reading → List ℕ
unlisted_text E164 n = e164_text n
unlisted_text International n = text_of n.national
unlisted_text National n = text_of n.national
unlisted_text Rfc3966 n = text_of n.national

-- the text of a number of which no more is known
abbrev pub plain_text : List Metadata → Mode → Reading → List ℕ
plain_text db mode n = unwrap_or (printed_by Library db mode n) (unlisted_text mode n)

-- a text that a number was read from is printed in its place where its value is 0 and the text
-- isn't empty
abbrev pub kept : Option (List ℕ) → Reading → Option (List ℕ)
kept None n = None
kept (Some []) n = None
kept (Some (c ∷ cs)) n = if n.national.value == 0 then Some (c ∷ cs) else None

-- the text with plus sign and code before it
abbrev pub coded : List ℕ → Reading → List ℕ
coded raw n = 43 ∷ (decimal n.code.value ++ raw)

-- the same where the code was found so: the text tells it, unless it came from the hint alone
abbrev pub coded_by : Source → List ℕ → Reading → List ℕ
coded_by Default raw n = coded raw n
coded_by Plus raw n = raw
coded_by Idd raw n = raw
coded_by Number raw n = raw

-- that text in a mode: as it stands; as E.164 text with its code
abbrev pub kept_text : Mode → List ℕ → Reading → List ℕ
kept_text E164 raw n = coded_by n.code.source raw n
kept_text International raw n = raw
kept_text National raw n = raw
kept_text Rfc3966 raw n = raw

-- the text of a number in a mode, by the text that it was read from where that is known
abbrev pub text_in : List Metadata → Mode → Option (List ℕ) → Reading → List ℕ
text_in db mode raw n = option_map_or (λ raw. kept_text mode raw n) (kept raw n)
    (plain_text db mode (plain n))

-- a text without its leading plus sign, where it has one
abbrev pub signless : List ℕ → List ℕ
signless [] = []
signless (c ∷ cs) = if c == 43 then cs else c ∷ cs
