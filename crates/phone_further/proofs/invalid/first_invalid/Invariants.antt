use Rattle.std.proofs.Common.{◌≡◌, Option, Some, chars, length}
use denote.Text.{Utf8}
use denote.Shadow.{shadow}
use Rattle.std.specs.Option.{option_copied}
use Rattle.phone_values.specs.declared.country.Id.{Id}
use Rattle.phone_values.specs.declared.reading.Reading.{Reading}
use Rattle.phone_read.specs.Hints.{hinted}
use Rattle.phone_further.specs.Invalid.{IsFirstInvalid}
use Rattle.phone_further.proofs.invalid.first_invalid.Given as goal

abbrev pub invariant-loop-front : goal.invariant-loop-front
invariant-loop-front l =
    shadow (Utf8 l.rest)
    × ((region : Id) → option_copied l.territory ≡ hinted l.database (Some region) → (found : Option Reading) →
    IsFirstInvalid l.database region (chars l.rest) found → IsFirstInvalid l.database region (chars l.text) found)

abbrev pub decreases-loop-front : goal.decreases-loop-front
decreases-loop-front l = length l.rest
