-- What a number is printed as under a database, by whose rules.
use Rattle.std.specs.Prelude.{ℕ, List, Option, None, option_map}
use Rattle.phone_values.specs.declared.mode.Mode.{Mode}
use Rattle.phone_values.specs.declared.reading.Reading.{Reading}
use Rattle.phone_values.specs.declared.rules.Rules.{Rules}
use Rattle.phone_plans.specs.CodeLookUps.{first_of, territories}
use Rattle.phone_print.specs.Texts.{text_by_rules}
use Rattle.phone_records.specs.declared.loader.Metadata.{Metadata}

-- the printed text in a mode: by the first territory of the number's code; none where the code is
-- not listed
abbrev pub printed_by : Rules → List Metadata → Mode → Reading → Option (List ℕ)
printed_by rules db mode n = option_map (λ m. text_by_rules rules m mode None n)
    (first_of (territories n.code.value db))
