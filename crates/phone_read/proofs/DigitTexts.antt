-- Texts of digits alone: their characters are their bytes.
use Rattle.std.proofs.Common.{◌≡◌, ℕ, ◌<◌, true, nat_le, List, [], ◌∷◌, ◌++◌, encode_utf8, encode_utf8_all, refl, ap₂, arith}
use Rattle.std.proofs.lemmas.Bool.{and_parts, leb-true}
use Rattle.std.proofs.lemmas.Str.{encode_ascii}
use Rattle.std.specs.List.{list_all}
use Rattle.phone_chars.specs.Characters.{is_digit}
use Rattle.phone_chars.specs.Norm.{norm}
use Rattle.phone_chars.proofs.Norms.{list_all-norm}

pub encode_utf8_all-digits : (ds : List ℕ) → list_all is_digit ds ≡ true → encode_utf8_all ds ≡ ds
encode_utf8_all-digits [] h = refl
encode_utf8_all-digits (d ∷ ds) h =
    let both = and_parts (is_digit d) (list_all is_digit ds) h in
    let range = and_parts (nat_le 48 d) (nat_le d 57) both.0 in
    let small : d < 128 = omega (arith, leb-true d 57 range.1) in
    let first : encode_utf8 d ≡ d ∷ [] = encode_ascii d small in
    ap₂ (λ x y. x ++ y) first (encode_utf8_all-digits ds both.1)

-- a normalised text is written as it is
pub encode_utf8_all-norm : (t : List ℕ) → encode_utf8_all (norm t) ≡ norm t
encode_utf8_all-norm t = encode_utf8_all-digits (norm t) (list_all-norm t)
