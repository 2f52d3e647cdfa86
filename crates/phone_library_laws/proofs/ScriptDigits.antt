-- Digits of any script are written in UTF-8, and read from it.
use Rattle.std.proofs.Common.{◌≡◌, ◌⊎◌, inl, inr, ℕ, ◌+◌, ◌≤◌, ◌<◌, ◌||◌, ◌&&◌, nat_le, nat_lt}
use Rattle.std.proofs.Common.{Bool, true, List, [], ◌∷◌, chars, encode_utf8}
use Rattle.std.proofs.Common.{encode_utf8_all, IsUtf8, leb-true, ltb-true, lt-ltb, refl, sym, ◌∙◌}
use Rattle.std.proofs.Common.{arith, true≢false}
use Rattle.std.proofs.lemmas.Bool.{and_from, and_parts, cond-false, le-leb, le-ltb}
use Rattle.std.proofs.lemmas.Bool.{or_cases}
use Rattle.std.proofs.lemmas.Str.{IsUtf8-append, IsUtf8-encode, IsUtf8-nil, chars-encodes}
use Rattle.std.proofs.Math.Utf8.{low_scalar, scalar, scalars}
use Rattle.std.specs.List.{list_all, list_any}
use Rattle.phone_chars.specs.Characters.{is_in_run, is_nd}
use Rattle.phone_library_text.specs.Letters.{zeros}
use Rattle.phone_library_text.proofs.Digits.{nd_exactly}

-- the ten characters from it on are no surrogates
abbrev is_fine : ℕ → Bool
is_fine z = nat_le (z + 9) 0xD7FF || (nat_le 0xE000 z && nat_le (z + 9) 0x10FFFF)

fine_zeros : list_all is_fine zeros ≡ true
fine_zeros = refl

in_fine_run : (z c : ℕ) → is_fine z ≡ true → is_in_run z c ≡ true → scalar c ≡ true
in_fine_run z c fine run =
    let both = and_parts (nat_le z c) (nat_lt c (z + 10)) run in
    let low = leb-true z c both.0 in
    let high = ltb-true c (z + 10) both.1 in
    at low high (or_cases (nat_le (z + 9) 0xD7FF) (nat_le 0xE000 z && nat_le (z + 9) 0x10FFFF) fine)
  where
    above : z ≤ c → c < z + 10 → (nat_le 0xE000 z && nat_le (z + 9) 0x10FFFF) ≡ true →
        scalar c ≡ true
    above low high h =
        let parts = and_parts (nat_le 0xE000 z) (nat_le (z + 9) 0x10FFFF) h in
        let first = leb-true 0xE000 z parts.0 in
        let last = leb-true (z + 9) 0x10FFFF parts.1 in
        cond-false _ _ _ (le-ltb c 55296 (omega (arith, low, first)))
        ∙ and_from _ _ (le-leb 57344 c (omega (arith, low, first)))
        (lt-ltb c 1114112 (omega (arith, high, last)))

    at : z ≤ c → c < z + 10 → (nat_le (z + 9) 0xD7FF ≡ true) ⊎
        ((nat_le 0xE000 z && nat_le (z + 9) 0x10FFFF) ≡ true) → scalar c ≡ true
    at low high (inl h) = let few = leb-true (z + 9) 0xD7FF h in
        low_scalar c (omega (arith, high, few))
    at low high (inr h) = above low high h

in_some_run : (zs : List ℕ) (c : ℕ) → list_all is_fine zs ≡ true →
    list_any (λ z. is_in_run z c) zs ≡ true → scalar c ≡ true
in_some_run [] c fine some = absurd (true≢false (sym some))
in_some_run (z ∷ zs) c fine some =
    let parts = and_parts (is_fine z) (list_all is_fine zs) fine in
    elim (or_cases (is_in_run z c) (list_any (λ z. is_in_run z c) zs) some) [
      | inl here ↦ in_fine_run z c parts.0 here
      | inr there ↦ in_some_run zs c parts.1 there
    ]

nd_scalar : (c : ℕ) → is_nd c ≡ true → scalar c ≡ true
nd_scalar c digit = in_some_run zeros c fine_zeros (sym (nd_exactly c) ∙ digit)

nd_scalars : (d : List ℕ) → list_all is_nd d ≡ true → scalars d ≡ true
nd_scalars [] all = refl
nd_scalars (c ∷ d) all =
    let parts = and_parts (is_nd c) (list_all is_nd d) all in
    and_from (scalar c) (scalars d) (nd_scalar c parts.0) (nd_scalars d parts.1)

-- so digits are read from their bytes, which are UTF-8
pub chars-digits : (d : List ℕ) → list_all is_nd d ≡ true → chars (encode_utf8_all d) ≡ d
chars-digits d all = chars-encodes d (nd_scalars d all)

pub IsUtf8-digits : (d : List ℕ) → list_all is_nd d ≡ true → IsUtf8 (encode_utf8_all d)
IsUtf8-digits [] all = IsUtf8-nil
IsUtf8-digits (c ∷ d) all =
    let parts = and_parts (is_nd c) (list_all is_nd d) all in
    IsUtf8-append (encode_utf8 c) (encode_utf8_all d) (IsUtf8-encode c (nd_scalar c parts.0))
    (IsUtf8-digits d parts.1)
