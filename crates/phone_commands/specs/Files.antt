-- What files of further columns hold.
use Rattle.std.specs.Prelude.{ℕ, Bool, true, false, List, Option}
use Rattle.phone_commands.specs.Pairs.{IsWithTab}
use Rattle.phone_commands.specs.declared.columns.NoColumns.{NoColumns}
use Rattle.phone_commands.specs.declared.columns.NoColumns.TheVariants.{Memory, Refused, Unopened}
use Rattle.phone_csv.specs.Runs.{OfRead}
use Rattle.phone_lines.specs.LineReports.{IsReport}
use Rattle.phone_prefixes.specs.declared.fault.PrefixesError.{PrefixesError}
use Rattle.phone_prefixes.specs.declared.fault.PrefixesError.TheVariants as error
use Rattle.phone_words.specs.Rows.{Lent}

-- this holds of what a source gave, each of its lines with a tab
abbrev pub OfTabbed : (before after : Option (List ℕ)) → (List ℕ → Type 0) → Type 0
OfTabbed before after holds = (text : List ℕ) ×
    OfRead before after (λ bytes. IsReport IsWithTab bytes text) × holds text

-- a refusal is of a line
abbrev pub is_of_line : PrefixesError → Bool
is_of_line (error.Line number what) = true
is_of_line error.Source = false
is_of_line error.Memory = false

-- why a file gives no table, by its refusal
abbrev pub refused : Lent → PrefixesError → NoColumns
refused name error.Source = Unopened name
refused name error.Memory = Memory
refused name (error.Line number what) = Refused name (error.Line number what)
