-- What lists of words mean, asked for examples.
use Rattle.std.specs.Prelude.{ℕ, List, Option, option_and_then, option_map}
use Rattle.std.specs.Result.{result_err, result_ok}
use Rattle.phone_words.specs.Calls.{Meaning, meaning, value}
use Rattle.phone_words.specs.Parts.{Fault}
use Rattle.phone_words.specs.declared.command.Command.{Command}
use Rattle.phone_words.specs.declared.parts.Why.{Why}
use Rattle.phone_words.specs.declared.values.Level.{Level}

-- what words ask for, where they are a call
abbrev pub command_by : List (List ℕ) → Option Command
command_by words = option_map (λ (m : Meaning). m.command) (result_ok (meaning words))

-- how many lines they leave out
abbrev pub skipped_by : List (List ℕ) → Option ℕ
skipped_by words = option_map (λ (m : Meaning). m.skipped) (result_ok (meaning words))

-- the level that they name
abbrev pub level_by : List (List ℕ) → Option Level
level_by words = option_and_then (λ (m : Meaning). m.level) (result_ok (meaning words))

-- the value that they give an option
abbrev pub value_by : List (List ℕ) → List ℕ → Option (List ℕ)
value_by words name =
    option_and_then (λ (m : Meaning). value m.parts name) (result_ok (meaning words))

-- why they are none
abbrev pub why_by : List (List ℕ) → Option Why
why_by words = option_map (λ (f : Fault). f.why) (result_err (meaning words))
