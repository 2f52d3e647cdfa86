-- A text with its digits as those of ASCII is read from its bytes.
use Rattle.std.proofs.Common.{◌≡◌, ℕ, ◌+◌, ◌-◌, true, List, [], ◌∷◌, Option, None, Some, option_map, chars, encode_utf8_all, IsUtf8, map, unwrap_or, refl, ap, ◌∙◌, arith}
use Rattle.std.proofs.Math.Utf8.{low_scalar, scalar, scalars}
use Rattle.std.proofs.lemmas.Bool.{and_from, and_parts}
use Rattle.std.proofs.lemmas.Str.{chars-encodes, scalars-chars}
use Rattle.std.specs.List.{find}
use Rattle.phone_chars.specs.Characters.{is_in_run}
use Rattle.phone_library_text.proofs.Digits.{found_in_run}
use Rattle.phone_library_text.specs.Letters.{zeros}
use Rattle.phone_matches.specs.Groupings.{as_digit, with_digits}

digit_scalar : (c : ℕ) → scalar c ≡ true → scalar (as_digit c) ≡ true
digit_scalar c h = by_run (find (λ z. is_in_run z c) zeros) refl
  where
    by_run : (o : Option ℕ) → find (λ z. is_in_run z c) zeros ≡ o → scalar (unwrap_or (option_map (λ z. 48 + (c - z)) o) c) ≡ true
    by_run None e = h
    by_run (Some z) e = let run = found_in_run zeros c z e in low_scalar (48 + (c - z)) (omega (arith, run.1))

digits_scalars : (cs : List ℕ) → scalars cs ≡ true → scalars (map as_digit cs) ≡ true
digits_scalars [] h = refl
digits_scalars (c ∷ cs) h =
    let parts = and_parts (scalar c) (scalars cs) h in
    and_from (scalar (as_digit c)) (scalars (map as_digit cs)) (digit_scalar c parts.0) (digits_scalars cs parts.1)

pub read_digits : (text bytes : List ℕ) → IsUtf8 text → bytes ≡ encode_utf8_all (with_digits (chars text)) → chars bytes ≡ with_digits (chars text)
read_digits text bytes u e = ap chars e ∙ chars-encodes (with_digits (chars text)) (digits_scalars (chars text) (scalars-chars text u))
