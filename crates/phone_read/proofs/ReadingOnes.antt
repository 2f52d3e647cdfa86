-- Each text has at most one reading, under each database and hint.
use Rattle.std.proofs.Common.{◌≡◌, ℕ, List, Option, None, Some, Result, refl, subst}
use Rattle.phone_values.specs.declared.country.Id.{Id}
use Rattle.phone_values.specs.declared.error.ParseError.{ParseError}
use Rattle.phone_chars.specs.Viable.{IsViable}
use Rattle.phone_records.specs.declared.loader.Metadata.{Metadata}
use Rattle.phone_read.specs.Readings
use Rattle.phone_read.specs.Readings.{Reads}
use Rattle.phone_parts.specs.Parts.{Parts}
use Rattle.phone_parts.specs.Readers.{HasParts}
use Rattle.phone_values.specs.declared.reading.Reading.{Reading}
use Rattle.phone_parts.proofs.OneParts.{parts_same}

-- the national parts of one text are one
part_same : (t : List ℕ) (p q : Parts) → HasParts t (Some p) → HasParts t (Some q) → p ≡ q
part_same t p q h g = let same : Some p ≡ Some q = parts_same t (Some p) (Some q) h g in cc

some_parts : (t : List ℕ) (p : Parts) → HasParts t (Some p) → ¬ (HasParts t None)
some_parts t p h g = let same : Some p ≡ None = parts_same t (Some p) None h g in cc

pub reading_same : (db : List Metadata) (hint : Option Id) (t : List ℕ) (a b : Result Reading ParseError) → Reads db hint t a → Reads db hint t b → a ≡ b
reading_same db hint t a b (Readings.no_parts h) (Readings.no_parts g) = refl
reading_same db hint t a b (Readings.no_parts h) (Readings.not_viable q g v) = absurd (some_parts t q g h)
reading_same db hint t a b (Readings.no_parts h) (Readings.no_code q e g v c) = absurd (some_parts t q g h)
reading_same db hint t a b (Readings.no_parts h) (Readings.coded q c g v e) = absurd (some_parts t q g h)
reading_same db hint t a b (Readings.not_viable p h v) (Readings.no_parts g) = absurd (some_parts t p h g)
reading_same db hint t a b (Readings.not_viable p h v) (Readings.not_viable q g w) = refl
reading_same db hint t a b (Readings.not_viable p h v) (Readings.no_code q e g w c) = absurd (v (subst (λ (x : Parts). IsViable x.national) (part_same t q p g h) w))
reading_same db hint t a b (Readings.not_viable p h v) (Readings.coded q c g w e) = absurd (v (subst (λ (x : Parts). IsViable x.national) (part_same t q p g h) w))
reading_same db hint t a b (Readings.no_code p e h v c) (Readings.no_parts g) = absurd (some_parts t p h g)
reading_same db hint t a b (Readings.no_code p e h v c) (Readings.not_viable q g w) = absurd (w (subst (λ (x : Parts). IsViable x.national) (part_same t p q h g) v))
reading_same db hint t a b (Readings.no_code p e h v c) (Readings.no_code q f g w d) = let same : p ≡ q = part_same t p q h g in cc
reading_same db hint t a b (Readings.no_code p e h v c) (Readings.coded q d g w f) = let same : p ≡ q = part_same t p q h g in cc
reading_same db hint t a b (Readings.coded p c h v e) (Readings.no_parts g) = absurd (some_parts t p h g)
reading_same db hint t a b (Readings.coded p c h v e) (Readings.not_viable q g w) = absurd (w (subst (λ (x : Parts). IsViable x.national) (part_same t p q h g) v))
reading_same db hint t a b (Readings.coded p c h v e) (Readings.no_code q f g w d) = let same : p ≡ q = part_same t p q h g in cc
reading_same db hint t a b (Readings.coded p c h v e) (Readings.coded q d g w f) = let same : p ≡ q = part_same t p q h g in let code : c ≡ d = cc in rw (same, code)
