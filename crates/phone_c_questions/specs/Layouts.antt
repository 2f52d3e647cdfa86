-- The text of a number by layouts that a second table has.
use Rattle.std.specs.Prelude.{◌≡◌, ℕ, List, [], codes}
use Rattle.std.specs.Option.{option_map_or}
use Rattle.phone_values.specs.declared.mode.Mode.{Mode}
use Rattle.phone_values.specs.declared.reading.Reading.{Reading}
use Rattle.phone_plans.specs.Records.{last_with}
use Rattle.phone_records.specs.declared.loader.Format.{Format}
use Rattle.phone_records.specs.declared.loader.Metadata.{Metadata}
use Rattle.phone_further.specs.OwnLayouts.{text_by_layouts}
use Rattle.phone_c_base.specs.Answers.{mode_number}
use Rattle.phone_c_base.specs.Numbers.{IsNumber}
use Rattle.phone_c_base.specs.declared.number.Number as plain

-- the layouts of a table: those of national text of its record 001; none without one
abbrev pub layouts_of : List Metadata → List Format
layouts_of own = option_map_or (λ (m : Metadata). m.formats) (last_with (codes "001") own) []

-- the plain numbers and their bytes are a number, and this is its text in the mode of this number
-- by the layouts of the second table
abbrev pub IsTextBy : (db own : List Metadata) → (mode : ℕ) → plain.Number →
    (bytes text : List ℕ) → Type 0
IsTextBy db own mode x bytes text = (n : Reading) × (m : Mode) × IsNumber x bytes n ×
    (mode ≡ mode_number m) × (text ≡ text_by_layouts db m (layouts_of own) n)
