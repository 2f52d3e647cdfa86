-- The first character of bytes in UTF-16.
use Rattle.std.proofs.Common.{◌≡◌, ℕ, ◌<◌, ◌≤◌, ◌&&◌, Bool, true, false, List, [], ◌∷◌, ◌++◌}
use Rattle.std.proofs.Common.{Option, None, Some, ap₂, arith, length, refl, subst, sym, ◌∙◌}
use Rattle.std.specs.Prelude.{IfSome, IsNone, MatchOption, slice_index}
use Rattle.std.specs.Char.Utf16.{is_high_surrogate, is_low_surrogate, surrogate_pair_char}
use Rattle.std.specs.Char.Utf16.{utf16_chars, utf16_lossy_chars}
use Rattle.phone_encodings.specs.Encodings.{IsFirst, unit, units}
use Rattle.phone_encodings.specs.FirstUnits.{first_of_two, lone}
use Rattle.phone_encodings.specs.Unfinished.{IsUnfinishedUnit}
use Rattle.phone_encodings.specs.declared.encoding.Encoding.TheVariants.{Utf16In}
use Rattle.phone_encodings.specs.declared.encoding.Order.{Order}

-- a unit that begins no pair
pub lossy_alone : (u : ℕ) (us : List ℕ) → is_high_surrogate u ≡ false →
    utf16_lossy_chars (u ∷ us) ≡ lone u ∷ utf16_lossy_chars us
unfolding utf16_chars
lossy_alone u [] alone = refl
lossy_alone u (v ∷ us) alone = rw alone

-- two units that are a pair
pub lossy_pair : (u v : ℕ) (us : List ℕ) → is_high_surrogate u && is_low_surrogate v ≡ true →
    utf16_lossy_chars (u ∷ v ∷ us) ≡ surrogate_pair_char u v ∷ utf16_lossy_chars us
unfolding utf16_chars
lossy_pair u v us pair = rw pair

-- two that are none
pub lossy_apart : (u v : ℕ) (us : List ℕ) → is_high_surrogate u && is_low_surrogate v ≡ false →
    utf16_lossy_chars (u ∷ v ∷ us) ≡ lone u ∷ utf16_lossy_chars (v ∷ us)
unfolding utf16_chars
lossy_apart u v us apart = rw apart

-- four bytes tell the first character
pub first_of_four : (order : Order) (a b c d : ℕ) (bytes : List ℕ) →
    let p = first_of_two (unit order a b) (unit order c d) in
    IsFirst (Utf16In order) (a ∷ b ∷ c ∷ d ∷ bytes) p.0 p.1
first_of_four order a b c d bytes =
    by_pair (is_high_surrogate (unit order a b) && is_low_surrogate (unit order c d)) refl
  where
    u : ℕ
    u = unit order a b

    v : ℕ
    v = unit order c d

    by_pair : (t : Bool) → is_high_surrogate u && is_low_surrogate v ≡ t →
        IsFirst (Utf16In order) (a ∷ b ∷ c ∷ d ∷ bytes) (first_of_two u v).0 (first_of_two u v).1
    by_pair true pair = rw pair record {
      some = omega arith;
      within = omega arith;
      begins = λ more. lossy_pair u v (units order (bytes ++ more)) pair;
    }
    by_pair false apart = rw apart record {
      some = omega arith;
      within = omega arith;
      begins = λ more. lossy_apart u v (units order (bytes ++ more)) apart;
    }

-- two bytes tell it where their unit begins no pair
pub first_of_bytes : (order : Order) (a b : ℕ) (bytes : List ℕ) →
    is_high_surrogate (unit order a b) ≡ false →
    IsFirst (Utf16In order) (a ∷ b ∷ bytes) (lone (unit order a b)) 2
first_of_bytes order a b bytes alone = record {
  some = omega arith;
  within = omega arith;
  begins = λ more. lossy_alone (unit order a b) (units order (bytes ++ more)) alone;
}

-- the same of what two bytes tell
pub alone_tells : (order : Order) (bytes : List ℕ) (u : ℕ) (r : Option (ℕ × ℕ)) →
    2 ≤ length bytes → u ≡ unit order (slice_index bytes 0) (slice_index bytes 1) →
    MatchOption r (is_high_surrogate u ≡ true)
    (λ p. (is_high_surrogate u ≡ false) × (p ≡ (lone u, 2))) →
    IfSome r (λ p. IsFirst (Utf16In order) bytes p.0 p.1)
alone_tells order [] u r long e m = absurd (omega (arith, long))
alone_tells order (a ∷ []) u r long e m = absurd (omega (arith, long))
alone_tells order (a ∷ b ∷ bytes) u None long e m = tt
alone_tells order (a ∷ b ∷ bytes) u (Some p) long e m =
    subst (λ q. IsFirst (Utf16In order) (a ∷ b ∷ bytes) q.0 q.1) (sym m.1)
    (subst (λ w. IsFirst (Utf16In order) (a ∷ b ∷ bytes) (lone w) 2) (sym e)
    (first_of_bytes order a b bytes (subst (λ w. is_high_surrogate w ≡ false) e m.0)))

-- what fewer than four bytes don't tell
pub alone_unfinished : (order : Order) (bytes : List ℕ) (u : ℕ) (r : Option (ℕ × ℕ)) →
    2 ≤ length bytes → length bytes < 4 →
    u ≡ unit order (slice_index bytes 0) (slice_index bytes 1) →
    MatchOption r (is_high_surrogate u ≡ true)
    (λ p. (is_high_surrogate u ≡ false) × (p ≡ (lone u, 2))) →
    IsNone r → IsUnfinishedUnit order bytes
alone_unfinished order [] u r long few e m none = absurd (omega (arith, long))
alone_unfinished order (a ∷ []) u r long few e m none = absurd (omega (arith, long))
alone_unfinished order bytes u (Some p) long few e m none = absurd (cc)
alone_unfinished order (a ∷ b ∷ []) u None long few e m none =
    subst (λ w. is_high_surrogate w ≡ true) e m
alone_unfinished order (a ∷ b ∷ c ∷ []) u None long few e m none =
    subst (λ w. is_high_surrogate w ≡ true) e m
alone_unfinished order (a ∷ b ∷ c ∷ d ∷ bytes) u None long few e m none =
    absurd (omega (arith, few))

-- what four bytes tell
pub four_tell : (order : Order) (bytes : List ℕ) (u v : ℕ) (p : ℕ × ℕ) → 4 ≤ length bytes →
    u ≡ unit order (slice_index bytes 0) (slice_index bytes 1) →
    v ≡ unit order (slice_index bytes 2) (slice_index bytes 3) → p ≡ first_of_two u v →
    IsFirst (Utf16In order) bytes p.0 p.1
four_tell order [] u v p long e f g = absurd (omega (arith, long))
four_tell order (a ∷ []) u v p long e f g = absurd (omega (arith, long))
four_tell order (a ∷ b ∷ []) u v p long e f g = absurd (omega (arith, long))
four_tell order (a ∷ b ∷ c ∷ []) u v p long e f g = absurd (omega (arith, long))
four_tell order (a ∷ b ∷ c ∷ d ∷ bytes) u v p long e f g =
    let same : p ≡ first_of_two (unit order a b) (unit order c d) = g ∙ ap₂ first_of_two e f in
    subst (λ q. IsFirst (Utf16In order) (a ∷ b ∷ c ∷ d ∷ bytes) q.0 q.1) (sym same)
    (first_of_four order a b c d bytes)
