-- What the error of a territory's record tells: after the original's `error`.
use Rattle.std.specs.Prelude.{ℕ, List, [], ◌∷◌, string_bytes}
use Rattle.phone_base.specs.declared.fault.MetadataError.{MetadataError}
use Rattle.phone_base.specs.declared.fault.MetadataError.TheVariants.{UnexpectedEof, MismatchedTag}
use Rattle.phone_base.specs.declared.fault.MetadataError.TheVariants.{MissingValue}
use Rattle.phone_base.specs.declared.fault.MetadataError.TheVariants.{UnhandledElement}
use Rattle.phone_base.specs.declared.fault.MetadataError.TheVariants.{UnhandledAttribute}
use Rattle.phone_base.specs.declared.fault.MetadataError.TheVariants.{UnhandledEvent}

-- which of the six kinds of error it is, and the texts that it has
abbrev pub told : MetadataError → ℕ × List (List ℕ)
told UnexpectedEof = (1, [])
told (MismatchedTag tag) = (2, string_bytes tag ∷ [])
told (MissingValue phase name) = (3, string_bytes phase ∷ string_bytes name ∷ [])
told (UnhandledElement phase name) = (4, string_bytes phase ∷ string_bytes name ∷ [])
told (UnhandledAttribute phase name value) = (
  5,
  string_bytes phase ∷ string_bytes name ∷
      string_bytes value ∷ [],
)
told (UnhandledEvent phase event) = (6, string_bytes phase ∷ string_bytes event ∷ [])
