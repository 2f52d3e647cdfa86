-- A text has one set of parts.
use Rattle.std.proofs.Common.{◌≡◌, ℕ, List, Option, Some, Ok, Err, refl, ap}
use Rattle.phone_parts.specs.Parts.{Parts}
use Rattle.phone_parts.specs.Readers
use Rattle.phone_parts.specs.Readers.{HasParts}
use Rattle.phone_parts.proofs.NaturalOnes.{natural_unique}
use Rattle.phone_parts.proofs.Tels.{tel_unique}

-- the parts of a text are determined: it has the `tel:` form or not, and either form has one reading
pub parts_same : (t : List ℕ) (a b : Option Parts) → HasParts t a → HasParts t b → a ≡ b
parts_same t a b (Readers.as_tel p h) (Readers.as_tel q g) = ap Some (tel_unique t p q h g)
parts_same t a b (Readers.as_tel p h) (Readers.as_natural q other g) = absurd (other p h)
parts_same t a b (Readers.as_tel p h) (Readers.as_neither e other g) = absurd (other p h)
parts_same t a b (Readers.as_natural p other h) (Readers.as_tel q g) = absurd (other q g)
parts_same t a b (Readers.as_natural p other h) (Readers.as_natural q other' g) = let same : Ok p ≡ Ok q = natural_unique t (Ok p) (Ok q) h g in cc
parts_same t a b (Readers.as_natural p other h) (Readers.as_neither e other' g) = let same : Ok p ≡ Err e = natural_unique t (Ok p) (Err e) h g in cc
parts_same t a b (Readers.as_neither e other h) (Readers.as_tel q g) = absurd (other q g)
parts_same t a b (Readers.as_neither e other h) (Readers.as_natural q other' g) = let same : Err e ≡ Ok q = natural_unique t (Err e) (Ok q) h g in cc
parts_same t a b (Readers.as_neither e other h) (Readers.as_neither f other' g) = refl
