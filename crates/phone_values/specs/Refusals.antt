-- Why a text is no number: each refusal's number and words, after the original's `error`.
use Rattle.std.specs.Prelude.{ℕ, List, codes}
use Rattle.phone_values.specs.declared.error.ParseError.{ParseError}
use Rattle.phone_values.specs.declared.error.ParseError.TheVariants.{NoNumber, InvalidCountryCode}
use Rattle.phone_values.specs.declared.error.ParseError.TheVariants.{TooShortAfterIdd, TooShortNsn}
use Rattle.phone_values.specs.declared.error.ParseError.TheVariants.{TooLong, MalformedInteger}
use Rattle.phone_values.specs.declared.error.ParseError.TheVariants.{Memory}

-- a refusal's number: its place in the declaration, from 1
abbrev pub refusal_number : ParseError → ℕ
refusal_number NoNumber = 1
refusal_number InvalidCountryCode = 2
refusal_number TooShortAfterIdd = 3
refusal_number TooShortNsn = 4
refusal_number TooLong = 5
refusal_number MalformedInteger = 6
refusal_number Memory = 7

-- a refusal's words, by which it is displayed
abbrev pub refusal_words : ParseError → List ℕ
refusal_words NoNumber = codes "not a number"
refusal_words InvalidCountryCode = codes "invalid country code"
refusal_words TooShortAfterIdd = codes "the number is too short after IDD"
refusal_words TooShortNsn = codes "the number is too short after the country code"
refusal_words TooLong = codes "the number is too long"
refusal_words MalformedInteger = codes "malformed integer part in phone number"
refusal_words Memory = codes "out of memory"

-- a refusal's words in a report: the same but for one, which is shorter there
abbrev pub report_words : ParseError → List ℕ
report_words MalformedInteger = codes "malformed integer"
report_words e = refusal_words e
