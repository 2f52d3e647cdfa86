-- Where keys stand in what is shown, which is bytes of ASCII: each of its characters is one byte.
use Rattle.std.proofs.Common.{◌≡◌, ℕ, zero, suc, ◌-◌, ◌<◌, Bool, true, false, if◌then◌else◌, nat_le, List, [], ◌∷◌, length, chars, Option, refl, ap, sym, leb-true, arith}
use Rattle.std.proofs.lemmas.Bool.{and_from, and_parts}
use Rattle.std.proofs.lemmas.Str.{chars-IsAscii}
use Rattle.std.proofs.lemmas.Str.Ascii.{IsAscii-nil, IsAscii-cons}
use Rattle.std.specs.List.{list_all}
use Rattle.std.specs.Str.{IsAscii}
use Rattle.phone_values.specs.declared.country.Id.{Id}
use Rattle.phone_records.specs.declared.loader.Metadata.{Metadata}
use Rattle.phone_typed.proofs.KeysOfTexts.{all-with_keys}
use Rattle.phone_typed.proofs.MarkedTexts.{may_stand, stand_passes}
use Rattle.phone_typed.proofs.TypedKeys.{typed-shows}
use Rattle.phone_typed.specs.Keys.{is_key, keys_in, up_to_key}
use Rattle.phone_typed.specs.Typed.{typed}

stand_small : (c : ℕ) → may_stand c ≡ true → c < 128
stand_small c h = let small = leb-true c 127 (stand_passes (λ b. nat_le b 127) refl refl refl c h) in omega (arith, small)

stands_ascii : (text : List ℕ) → list_all may_stand text ≡ true → IsAscii text
stands_ascii [] h = IsAscii-nil
stands_ascii (c ∷ text) h =
    let parts = and_parts (may_stand c) (list_all may_stand text) h in
    IsAscii-cons c text (stand_small c parts.0) (stands_ascii text parts.1)

-- what may stand in a text may stand in its beginning
beginning_stands : (n : ℕ) (text : List ℕ) → list_all may_stand text ≡ true → list_all may_stand (up_to_key n text) ≡ true
beginning_stands zero text h = refl
beginning_stands (suc n) [] h = refl
beginning_stands (suc n) (c ∷ text) h =
    let parts = and_parts (may_stand c) (list_all may_stand text) h in
    and_from _ _ parts.0 (beginning_stands (if is_key c then n else suc n) text parts.1)

pub one_byte_each : (db : List Metadata) (hint : Option Id) (text : List ℕ) (n : ℕ) →
    length (chars (up_to_key n (typed db hint (keys_in text)))) ≡ length (up_to_key n (typed db hint (keys_in text)))
one_byte_each db hint text n =
    let shown = typed db hint (keys_in text) in
    let stands = (typed-shows db hint (keys_in text) (all-with_keys [] text refl)).1 in
    ap length (chars-IsAscii (up_to_key n shown) (stands_ascii (up_to_key n shown) (beginning_stands n shown stands)))

-- no key stands in no text
pub up_to_key-nil : (n : ℕ) → up_to_key n [] ≡ []
up_to_key-nil zero = refl
up_to_key-nil (suc n) = refl

-- past a byte: a key leaves one fewer to come, another byte as many
pub past : (left next byte : ℕ) (after : List ℕ) → ¬ (left ≡ 0) → (is_key byte ≡ true → next ≡ left - 1) → (is_key byte ≡ false → next ≡ left) →
    length (up_to_key left (byte ∷ after)) ≡ suc (length (up_to_key next after))
past zero next byte after some key other = absurd (some refl)
past (suc left) next byte after some key other = at (is_key byte) refl
  where
    at : (b : Bool) → is_key byte ≡ b → suc (length (up_to_key (if b then left else suc left) after)) ≡ suc (length (up_to_key next after))
    at true e = let same : left ≡ next = omega (arith, key e) in ap (λ n. suc (length (up_to_key n after))) same
    at false e = ap (λ n. suc (length (up_to_key n after))) (sym (other e))
