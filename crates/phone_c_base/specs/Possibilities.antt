-- Whether a number, or a text, is possible, told by a number.
use Rattle.std.specs.Prelude.{◌≡◌, ℕ, List, Option, Result, Ok, Err, chars}
use Rattle.phone_values.specs.Refusals.{refusal_number}
use Rattle.phone_values.specs.declared.country.Id.{Id}
use Rattle.phone_values.specs.declared.error.ParseError.{ParseError}
use Rattle.phone_values.specs.declared.reading.Reading.{Reading}
use Rattle.phone_records.specs.declared.loader.Metadata.{Metadata}
use Rattle.phone_engine.specs.Readings.{ReadsBy}
use Rattle.phone_values.specs.declared.rules.Rules.{Rules}
use Rattle.phone_engine.specs.Possibilities.{possibility_of, possibility_read}
use Rattle.phone_engine.specs.declared.possibilities.Possibility.{Possibility}
use Rattle.phone_engine.specs.declared.possibilities.Possibility.TheVariants.{Possible}
use Rattle.phone_engine.specs.declared.possibilities.Possibility.TheVariants.{PossibleLocally}
use Rattle.phone_engine.specs.declared.possibilities.Possibility.TheVariants.{TooShort, TooLong}
use Rattle.phone_engine.specs.declared.possibilities.Possibility.TheVariants.{WrongLength}
use Rattle.phone_engine.specs.declared.possibilities.Possibility.TheVariants.{UnknownCode}
use Rattle.phone_c_base.specs.Numbers.{HasNumbers}
use Rattle.phone_c_base.specs.declared.number.Number as plain

-- what a length says, by its number
abbrev pub possibility_number : Possibility → ℕ
possibility_number Possible = 0
possibility_number PossibleLocally = 1
possibility_number TooShort = 2
possibility_number TooLong = 3
possibility_number WrongLength = 4
possibility_number UnknownCode = 5

-- by rules, what the length of the number that has these plain numbers says
abbrev pub IsPossibility : Rules → List Metadata → plain.Number → ℕ → Type 0
IsPossibility rules db x told = (n : Reading) × HasNumbers x n ×
    (told ≡ possibility_number (possibility_of rules db n))

-- this is said of the text as it is read by rules and under a hint
abbrev pub IsSaidOfText : Rules → List Metadata → Option Id → (text : List ℕ) →
    Result Possibility ParseError → Type 0
IsSaidOfText rules db hint text said = (r : Result Reading ParseError) ×
    ReadsBy rules db hint (chars text) r × (said ≡ possibility_read rules db r)

-- by its number, where it is what a length says
abbrev pub IsTextPossibility : Rules → List Metadata → Option Id → (text : List ℕ) → ℕ → Type 0
IsTextPossibility rules db hint text told = (p : Possibility) ×
    IsSaidOfText rules db hint text (Ok p) × (told ≡ possibility_number p)

-- the status is the number of the refusal, where it is one
abbrev pub IsNoPossibility : Rules → List Metadata → Option Id → (text : List ℕ) → ℕ → Type 0
IsNoPossibility rules db hint text status = (e : ParseError) ×
    IsSaidOfText rules db hint text (Err e) × (status ≡ refusal_number e)
