-- Whether two texts are one number, told by a number.
use Rattle.std.specs.Prelude.{◌≡◌, ℕ, List, Ok, Err, chars}
use Rattle.phone_values.specs.Refusals.{refusal_number}
use Rattle.phone_values.specs.declared.error.ParseError.{ParseError}
use Rattle.phone_records.specs.declared.loader.Metadata.{Metadata}
use Rattle.phone_values.specs.declared.rules.Rules.{Rules}
use Rattle.phone_engine.specs.Sameness.{IsAnswer}
use Rattle.phone_engine.specs.declared.sameness.Sameness.{Sameness}
use Rattle.phone_engine.specs.declared.sameness.Sameness.TheVariants.{Exact, Number, National, End}
use Rattle.phone_engine.specs.declared.sameness.Sameness.TheVariants.{Different}

-- how like two numbers are, by its number
abbrev pub sameness_number : Sameness → ℕ
sameness_number Exact = 0
sameness_number Number = 1
sameness_number National = 2
sameness_number End = 3
sameness_number Different = 4

-- by rules the texts are so like one number
abbrev pub AreAlike : Rules → List Metadata → (first second : List ℕ) → ℕ → Type 0
AreAlike rules db first second told = (s : Sameness) ×
    IsAnswer rules db (chars first) (chars second) (Ok s) × (told ≡ sameness_number s)

-- by rules one of them is refused, and the status is the number of the refusal
abbrev pub AreRefusedAs : Rules → List Metadata → (first second : List ℕ) → ℕ → Type 0
AreRefusedAs rules db first second status = (e : ParseError) ×
    IsAnswer rules db (chars first) (chars second) (Err e) × (status ≡ refusal_number e)
