-- How a number is written for calls inside its country with the code of a carrier: as
-- libphonenumber writes it.
use Rattle.std.specs.Prelude.{ℕ, List, [], ◌∷◌, Option, None, Some, unwrap_or}
use Rattle.phone_values.specs.Numbers.{text_of}
use Rattle.phone_values.specs.declared.mode.Mode.TheVariants.{National}
use Rattle.phone_values.specs.declared.reading.Reading.{Reading}
use Rattle.phone_values.specs.declared.rules.Rules.TheVariants.{Library}
use Rattle.phone_library.specs.Printed.{printed_by}
use Rattle.phone_records.specs.declared.loader.Metadata.{Metadata}
use Rattle.phone_questions.specs.Matches.{extension_told}

-- a carrier counts where it isn't empty
abbrev pub carrier_told : List ℕ → Option (List ℕ)
carrier_told [] = None
carrier_told (c ∷ cs) = Some (c ∷ cs)

-- a number as it is dialled with a carrier; an empty carrier is none, and an empty extension
abbrev pub dialled_with : List ℕ → Reading → Reading
dialled_with carrier n = record n {
  extension = extension_told n.extension;
  carrier = carrier_told carrier;
}

-- the national text of a number with a carrier, its digits alone where its code isn't listed
abbrev pub national_with : List Metadata → List ℕ → Reading → List ℕ
national_with db carrier n =
    unwrap_or (printed_by Library db National (dialled_with carrier n)) (text_of n.national)

-- the carrier that was dialled with a number, where it isn't empty; else another
abbrev pub preferred_carrier : List ℕ → Option (List ℕ) → List ℕ
preferred_carrier other None = other
preferred_carrier other (Some []) = other
preferred_carrier other (Some (c ∷ cs)) = c ∷ cs
