-- What the refusal of a database tells: after the original's `error`, with refusals of JSON in
-- place of XML.
use Rattle.std.specs.Prelude.{ℕ, List, [], ◌∷◌, string_bytes}
use Rattle.phone_base.specs.Faults.{told as told_of_record}
use Rattle.phone_base.specs.declared.fault.MetadataError.{MetadataError}
use Rattle.phone_base.specs.declared.fault.MetadataError.TheVariants as fault
use Rattle.phone_base.specs.declared.error.LoadMetadata.{LoadMetadata}
use Rattle.phone_base.specs.declared.error.LoadMetadata.TheVariants as error

-- the number of what is wrong with a record: 1 for a missing value, 2 for a key that may not stand
-- there, 8 for the others, which are never given
abbrev pub fault_number : MetadataError → ℕ
fault_number (fault.MissingValue phase name) = 1
fault_number (fault.UnhandledElement phase name) = 2
fault_number _ = 8

-- which of the refusals it is, and the texts that it has
abbrev pub told : LoadMetadata → ℕ × List (List ℕ)
told (error.Metadata f) = (fault_number f, (told_of_record f).1)
told error.Json = (3, [])
told (error.Kind phase name) = (4, string_bytes phase ∷ string_bytes name ∷ [])
told (error.Regex pattern) = (5, string_bytes pattern ∷ [])
told error.Io = (6, [])
told error.Memory = (7, [])
