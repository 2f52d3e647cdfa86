-- What a number is printed as under a database.
use Rattle.std.specs.Prelude.{ℕ, List, Option, option_map}
use Rattle.phone_values.specs.declared.mode.Mode.{Mode}
use Rattle.phone_values.specs.declared.reading.Reading.{Reading}
use Rattle.phone_plans.specs.CodeLookUps.{first_of, territories}
use Rattle.phone_print.specs.Tabbed.{texts_by}
use Rattle.phone_print.specs.Texts.{text_by}
use Rattle.phone_records.specs.declared.loader.Format.{Format}
use Rattle.phone_records.specs.declared.loader.Metadata.{Metadata}

-- the printed text: by the first territory of the number's code; none where the code is not listed
abbrev pub printed : List Metadata → Mode → Option Format → Reading → Option (List ℕ)
printed db mode own n = option_map (λ m. text_by m mode own n)
    (first_of (territories n.code.value db))

-- the texts in the four modes, parted by tabs, by the first territory of the number's code; none
-- where the code is not listed
abbrev pub printed_texts : List Metadata → Option Format → Reading → Option (List ℕ)
printed_texts db own n = option_map (λ m. texts_by m own n) (first_of (territories n.code.value db))
