-- The words of a report's fields, and the line of a refusal.
use Rattle.std.specs.Prelude.{ℕ, Bool, if◌then◌else◌, List, [], ◌∷◌, codes, Option}
use Rattle.std.specs.Fmt.{decimal}
use Rattle.std.specs.Option.{option_map_or}
use Rattle.phone_values.specs.Ids.{name}
use Rattle.phone_values.specs.Kinds.{kind_name}
use Rattle.phone_values.specs.Refusals.{refusal_number, report_words}
use Rattle.phone_values.specs.declared.country.Id.{Id}
use Rattle.phone_values.specs.declared.country.Source.{Source}
use Rattle.phone_values.specs.declared.country.Source.TheVariants.{Plus, Idd, Number, Default}
use Rattle.phone_values.specs.declared.error.ParseError.{ParseError}
use Rattle.phone_values.specs.declared.kind.«Type».{«Type»}
use Rattle.phone_print.specs.Tabbed.{tabbed}

-- how a code was found, in a word
abbrev pub source_word : Source → List ℕ
source_word Plus = codes "plus"
source_word Idd = codes "idd"
source_word Number = codes "number"
source_word Default = codes "default"

-- a kind's name
abbrev pub kind_word : «Type» → List ℕ
kind_word kind = kind_name kind

-- a region by its id, or a hyphen
abbrev pub region_word : Option Id → List ℕ
region_word region = option_map_or name region (codes "-")

-- valid or not, in a word
abbrev pub validity_word : Bool → List ℕ
validity_word valid = if valid then codes "valid" else codes "invalid"

-- a refusal's number and its words
abbrev pub refusal_fields : ParseError → List (List ℕ)
refusal_fields e = decimal (refusal_number e) ∷ report_words e ∷ []

-- the line of a refusal
abbrev pub refusal_line : ParseError → List ℕ
refusal_line e = tabbed (codes "error" ∷ refusal_fields e)
