-- The first character of bytes that nothing comes after.
use Rattle.std.proofs.Common.{◌≡◌, ℕ, ◌<◌, ◌≤◌, true, List, [], ◌∷◌, ap, arith, drop}
use Rattle.std.proofs.Common.{length, refl, ◌∙◌}
use Rattle.std.proofs.lemmas.Bool.{and_parts, leb-true, lt-ltb, ltb-true, le-leb}
use Rattle.std.specs.Char.Utf16.{is_high_surrogate, utf16_chars, utf16_lossy_chars}
use Rattle.phone_encodings.specs.Encodings.{characters, unit}
use Rattle.phone_encodings.specs.FirstUnits.{lone}
use Rattle.phone_encodings.specs.Unfinished.{IsUnfinished}
use Rattle.phone_encodings.specs.declared.encoding.Encoding.{Encoding}
use Rattle.phone_encodings.specs.declared.encoding.Encoding.TheVariants as encoding
use Rattle.phone_encodings.proofs.UnitLemmas.{lossy_apart}

-- a surrogate that is in no pair
lone_high : (u : ℕ) → is_high_surrogate u ≡ true → lone u ≡ 0xFFFD
lone_high u high =
    let p = and_parts _ _ high in
    let from : 0xD800 ≤ u = leb-true _ _ p.0 in
    let below : u < 0xE000 = omega (arith, ltb-true _ _ p.1) in
    rw (le-leb 0xD800 u from, lt-ltb u 0xE000 below)

-- one byte
pub left_one : (bytes : List ℕ) → 1 ≤ length bytes → length bytes < 2 → (e : Encoding) →
    IsUnfinished e bytes → characters e bytes ≡ 0xFFFD ∷ characters e (drop 1 bytes)
unfolding utf16_chars
left_one [] some one e is = absurd (omega (arith, some))
left_one (a ∷ b ∷ bytes) some one e is = absurd (omega (arith, one))
left_one (a ∷ []) some one encoding.Latin1 is = absurd (cc)
left_one (a ∷ []) some one encoding.Windows1252 is = absurd (cc)
left_one (a ∷ []) some one encoding.Utf16 is = refl
left_one (a ∷ []) some one (encoding.Utf16In order) is = refl

-- two, or three
pub left_two : (bytes : List ℕ) → 2 ≤ length bytes → (e : Encoding) →
    IsUnfinished e bytes → characters e bytes ≡ 0xFFFD ∷ characters e (drop 2 bytes)
unfolding utf16_chars
left_two [] two e is = absurd (omega (arith, two))
left_two (a ∷ []) two e is = absurd (omega (arith, two))
left_two (a ∷ b ∷ bytes) two encoding.Latin1 is = absurd (cc)
left_two (a ∷ b ∷ bytes) two encoding.Windows1252 is = absurd (cc)
left_two (a ∷ b ∷ bytes) two encoding.Utf16 is = absurd (omega (arith, is))
left_two (a ∷ b ∷ []) two (encoding.Utf16In order) is =
    ap (λ c. c ∷ []) (lone_high (unit order a b) is)
left_two (a ∷ b ∷ c ∷ []) two (encoding.Utf16In order) is =
    lossy_apart (unit order a b) 0xFFFD [] (rw is) ∙
    ap (λ c. c ∷ utf16_lossy_chars (0xFFFD ∷ [])) (lone_high (unit order a b) is)
left_two (a ∷ b ∷ c ∷ d ∷ bytes) two (encoding.Utf16In order) is = absurd is

-- bytes that are unfinished are few
pub unfinished_few : (bytes : List ℕ) (e : Encoding) → IsUnfinished e bytes → length bytes < 4
unfinished_few [] e is = omega arith
unfinished_few (a ∷ []) e is = omega arith
unfinished_few (a ∷ b ∷ []) e is = omega arith
unfinished_few (a ∷ b ∷ c ∷ []) e is = omega arith
unfinished_few (a ∷ b ∷ c ∷ d ∷ bytes) encoding.Latin1 is = absurd (cc)
unfinished_few (a ∷ b ∷ c ∷ d ∷ bytes) encoding.Windows1252 is = absurd (cc)
unfinished_few (a ∷ b ∷ c ∷ d ∷ bytes) encoding.Utf16 is = absurd (omega (arith, is))
unfinished_few (a ∷ b ∷ c ∷ d ∷ bytes) (encoding.Utf16In order) is = absurd is

-- no bytes are no characters
pub none_decoded : (e : Encoding) → characters e [] ≡ []
unfolding utf16_chars
none_decoded encoding.Latin1 = refl
none_decoded encoding.Windows1252 = refl
none_decoded encoding.Utf16 = refl
none_decoded (encoding.Utf16In order) = refl
