-- Which patterns a territory's record has, and why one of them is refused.
use Rattle.std.specs.Prelude.{ℕ, List, ◌++◌, Option, Result, IfOk, IfErr}
use Rattle.std.specs.List.{AllByRecursion, flat_map}
use Rattle.std.specs.Option.{option_and_then, option_to_list}
-- one of a list of patterns is refused, and all before it are patterns
pub use Rattle.phone_pattern.specs.Refusals.{IsRefusedIn, IsPatternRefusal}
use Rattle.phone_pattern.specs.First.{IsPattern}
use Rattle.phone_records.specs.Kinds.{Four}
use Rattle.phone_records.specs.Missing.{descriptors_of}
use Rattle.phone_records.specs.declared.loader.Descriptor.{Descriptor}
use Rattle.phone_records.specs.declared.loader.Format.{Format}
use Rattle.phone_records.specs.declared.loader.Metadata.{Metadata}
use Rattle.phone_base.specs.declared.error.LoadMetadata.{LoadMetadata}

-- the pattern of a descriptor
abbrev pub patterns_in_descriptor : Option Descriptor → List (List ℕ)
patterns_in_descriptor d = option_to_list
    (option_and_then (λ (d : Descriptor). d.national_number) d)

-- the patterns of four descriptors, and these after them
abbrev pub with_four : Four → List (List ℕ) → List (List ℕ)
with_four d after =
    patterns_in_descriptor d.0 ++ (patterns_in_descriptor d.1 ++
    (patterns_in_descriptor d.2 ++ (patterns_in_descriptor d.3 ++ after)))

-- what was compiled of these patterns, in their order: where it is there all are patterns, else it
-- is refused as they are
abbrev pub AreRead : {X : Type 0} → List (List ℕ) → Result X LoadMetadata → Type 0
AreRead ps made = IfOk made (λ _. AllByRecursion IsPattern ps) × IfErr made (IsPatternRefusal ps)

-- the patterns of a layout
abbrev pub patterns_in_format : Format → List (List ℕ)
patterns_in_format f = option_to_list f.pattern ++ f.leading_digits

-- the patterns of what is dialled in front, of leading digits, and of layouts
abbrev pub patterns_besides : Option (List ℕ) → Option (List ℕ) → Option (List ℕ) → List Format →
    List Format → List (List ℕ)
patterns_besides dialled parsing leading national international =
    option_to_list dialled
    ++ (option_to_list parsing
    ++ (option_to_list leading
    ++ (flat_map patterns_in_format national ++ flat_map patterns_in_format international)))

-- the patterns of a territory: of its descriptors, of what is dialled in front, of its leading
-- digits, and of its layouts
unfoldable pub patterns_in : Metadata → List (List ℕ)
patterns_in m =
    flat_map patterns_in_descriptor (descriptors_of m)
    ++ (option_to_list m.international_prefix
    ++ (option_to_list m.national_prefix_for_parsing
    ++ (option_to_list m.leading_digits
    ++ (flat_map patterns_in_format m.formats ++
    flat_map patterns_in_format m.international_formats))))
