-- The first field of what stands behind a record's own fields.
use Rattle.std.proofs.Common.{◌≡◌, ◌+◌, ℕ, [], ◌∷◌, ◌++◌, length, get_or, refl, ap, arith, ◌∙◌, length-append}
use Rattle.csv.specs.Records.{field_at}
use Rattle.phone_csv.specs.Formats.{Record}
use Rattle.phone_table.specs.Regions.{field_in}

pub field_at_seam : (own answer : Record) → field_in (own ++ answer) (length own) ≡ get_or answer 0 []
unfolding field_at
field_at_seam [] [] = refl
field_at_seam [] (f ∷ fs) = refl
field_at_seam (o ∷ os) answer = field_at_seam os answer

pub key_is_first : (fields own answer : Record) (place : ℕ) → fields ≡ own ++ answer → length fields ≡ place + length answer → field_in fields place ≡ get_or answer 0 []
key_is_first fields own answer place e l =
    let sum : length fields ≡ length own + length answer = ap length e ∙ length-append own answer in
    let same : place ≡ length own = omega (arith, l, sum) in rw (e, same) (field_at_seam own answer)
