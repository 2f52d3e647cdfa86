-- What the two readers find in a text: after the original's `parser`, which tries the `tel:` form
-- first.
use Rattle.std.specs.Prelude.{ℕ, List, Option, None, Some, Ok, Err}
use Rattle.phone_parts.specs.Naturals.{IsNatural}
use Rattle.phone_parts.specs.Parts.{Parts}
use Rattle.phone_parts.specs.Tel.{IsTel}
use Rattle.phone_parts.specs.declared.natural.NoReading.{NoReading}

-- the parts of a text: those of the `tel:` form where it has that form, else those of free text
pub data HasParts (t : List ℕ) : Option Parts → Type 0 where
  as_tel : (p : Parts) → IsTel t p → HasParts t (Some p)
  as_natural : (p : Parts) → ((q : Parts) → ¬ (IsTel t q)) → IsNatural t (Ok p) →
      HasParts t (Some p)
  as_neither : (e : NoReading) → ((q : Parts) → ¬ (IsTel t q)) → IsNatural t (Err e) →
      HasParts t None
