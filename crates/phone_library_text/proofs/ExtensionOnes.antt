-- An extension has one text of digits, and a text one longest extension.
use Rattle.std.proofs.Common.{◌≡◌, ◌⊎◌, inl, inr, ℕ, zero, suc, ◌≤◌, ◌<◌, Bool, true, false, not, ◌==◌, List, [], ◌∷◌, ◌++◌, length, drop, take, Option, Some, refl, ap, sym, subst, ◌∙◌, true≢false, arith, append_assoc, append-nil}
use Rattle.std.proofs.Math.Seq.{drop-append_seam, take-append_seam}
use Rattle.std.proofs.lemmas.Bool.{and_parts, cases_lt, not-true, or_left}
use Rattle.std.proofs.lemmas.List.{append_cancel_right}
use Rattle.std.proofs.lemmas.List.Folds.{list_all-append}
use Rattle.std.specs.List.{list_all}
use Rattle.phone_chars.specs.Characters.{is_nd}
use Rattle.phone_parts.specs.Suffixes.{IsOptional, is_sign}
use Rattle.phone_parts.specs.Texts.{ends}
use Rattle.phone_parts.proofs.Endings.{is_35, nd_35}
use Rattle.phone_parts.proofs.Ends.{ends_wider, longest_end_same, no_run_at_end}
use Rattle.phone_library_text.specs.Extensions.{HasLongestExtension, HasNoExtension, IsExtension}
use Rattle.phone_library_text.specs.Viable
use Rattle.phone_library_text.specs.Viable.{HasNumber, IsViable}
use Rattle.phone_library_text.proofs.Outers.{announced_ends, ends_all, is_inner, is_outer}

optional_sign : (t : List ℕ) → IsOptional is_sign t → (t ≡ []) ⊎ (t ≡ 35 ∷ [])
optional_sign [] h = inl refl
optional_sign (x ∷ []) h = inr (ap (λ c. c ∷ []) (is_35 x (and_parts (is_sign x) true h.only).0))
optional_sign (x ∷ y ∷ t) h = absurd (omega (arith, h.few))

-- an announcement ends in no digit
no_digit : (c : ℕ) → is_outer c ≡ true → not (is_nd c) ≡ true
no_digit c h = at (is_nd c) refl
  where
    at : (b : Bool) → is_nd c ≡ b → not b ≡ true
    at false e = refl
    at true e = absurd (true≢false (sym (or_left (is_nd c) (c == 43) e) ∙ not-true (is_inner c) h))

digitless : (w d : List ℕ) (h : IsExtension w d) → ends (λ c. not (is_nd c)) h.announcement ≡ true
digitless w d h = ends_wider is_outer (λ c. not (is_nd c)) no_digit h.announcement (announced_ends h.announcement (length d) (not (length h.sign == 0)) h.announced)

-- where one sign is there and the other isn't, the digits without it end in a sign
no_sign_beside : (w d e : List ℕ) (g : IsExtension w d) (h : IsExtension w e) → g.sign ≡ [] → ¬ (h.sign ≡ 35 ∷ [])
no_sign_beside w d e g h none sign =
    let plain : w ≡ g.announcement ++ d = g.whole ∙ ap (λ t. g.announcement ++ (d ++ t)) none ∙ ap (λ t. g.announcement ++ t) (append-nil d) in
    let signed : w ≡ (h.announcement ++ e) ++ 35 ∷ [] =
    h.whole ∙ ap (λ t. h.announcement ++ (e ++ t)) sign ∙ sym (append_assoc h.announcement e (35 ∷ [])) in
    let nil : d ≡ [] = no_run_at_end is_nd g.announcement d (h.announcement ++ e) 35 g.digits nd_35 (sym plain ∙ signed) in
    omega (arith, g.some_digits, ap length nil)

-- so the signs are one
signs_same : (w d e : List ℕ) (g : IsExtension w d) (h : IsExtension w e) → g.sign ≡ h.sign
signs_same w d e g h = at (optional_sign g.sign g.signs) (optional_sign h.sign h.signs)
  where
    at : (g.sign ≡ []) ⊎ (g.sign ≡ 35 ∷ []) → (h.sign ≡ []) ⊎ (h.sign ≡ 35 ∷ []) → g.sign ≡ h.sign
    at (inl a) (inl b) = a ∙ sym b
    at (inr a) (inr b) = a ∙ sym b
    at (inl a) (inr b) = absurd (no_sign_beside w d e g h a b)
    at (inr a) (inl b) = absurd (no_sign_beside w e d h g b a)

-- an extension has one text of digits
pub digits_same : (w d e : List ℕ) → IsExtension w d → IsExtension w e → d ≡ e
digits_same w d e g h =
    let cut : (g.announcement ++ d) ++ g.sign ≡ (h.announcement ++ e) ++ g.sign =
    append_assoc g.announcement d g.sign ∙ sym g.whole ∙ h.whole ∙ sym (append_assoc h.announcement e h.sign)
    ∙ ap (λ t. (h.announcement ++ e) ++ t) (sym (signs_same w d e g h)) in
    longest_end_same is_nd g.announcement h.announcement d e (append_cancel_right (g.announcement ++ d) (h.announcement ++ e) g.sign cut) g.digits h.digits (digitless w d g)
    (digitless w e h)

-- ---- the longest extension

after_before : (t n d : List ℕ) (h : HasLongestExtension t n d) → IsExtension (drop (length n) t) d
after_before t n d h = subst (λ x. IsExtension x d) (sym (ap (drop (length n)) h.whole ∙ drop-append_seam n h.extension)) h.is_extension

not_shorter : (t n m d e : List ℕ) → HasLongestExtension t n d → HasLongestExtension t m e → ¬ (length n < length m)
not_shorter t n m d e g h less = h.longest (length n) d less (after_before t n d g)

-- what stands before the longest extension is one text
before_same : (t n m d e : List ℕ) → HasLongestExtension t n d → HasLongestExtension t m e → n ≡ m
before_same t n m d e g h = sym (ap (take (length n)) g.whole ∙ take-append_seam n g.extension) ∙ ap (λ k. take k t) size ∙ ap (take (length m)) h.whole ∙ take-append_seam m h.extension
  where
    at : (length n < length m) ⊎ (length m ≤ length n) → (length m < length n) ⊎ (length n ≤ length m) → length n ≡ length m
    at (inl less) _ = absurd (not_shorter t n m d e g h less)
    at (inr le) (inl less) = absurd (not_shorter t m n e d h g less)
    at (inr le) (inr ge) = omega (arith, le, ge)

    size : length n ≡ length m
    size = at (cases_lt (length n) (length m)) (cases_lt (length m) (length n))

longest_digits : (t n m d e : List ℕ) → HasLongestExtension t n d → HasLongestExtension t m e → d ≡ e
longest_digits t n m d e g h =
    let same : n ≡ m = before_same t n m d e g h in
    digits_same (drop (length m) t) d e (subst (λ x. IsExtension (drop (length x) t) d) same (after_before t n d g)) (after_before t m e h)

no_longest : (t n d : List ℕ) → HasLongestExtension t n d → ¬ (HasNoExtension t)
no_longest t n d h none = none (length n) d (after_before t n d h)

-- the number and the extension of a text are one
pub numbers_same : (t n m : List ℕ) (a b : Option (List ℕ)) → HasNumber t n a → HasNumber t m b → (n ≡ m) × (a ≡ b)
numbers_same t n m a b (Viable.extended x d g v) (Viable.extended y e h w) = (before_same t x y d e g h, ap (λ z. Some z) (longest_digits t x y d e g h))
numbers_same t n m a b (Viable.extended x d g v) (Viable.not_viable y e h w) = absurd (w (subst IsViable (before_same t x y d e g h) v))
numbers_same t n m a b (Viable.extended x d g v) (Viable.plain h) = absurd (no_longest t x d g h)
numbers_same t n m a b (Viable.not_viable x d g v) (Viable.extended y e h w) = absurd (v (subst IsViable (sym (before_same t x y d e g h)) w))
numbers_same t n m a b (Viable.not_viable x d g v) (Viable.not_viable y e h w) = (refl, refl)
numbers_same t n m a b (Viable.not_viable x d g v) (Viable.plain h) = (refl, refl)
numbers_same t n m a b (Viable.plain g) (Viable.extended y e h w) = absurd (no_longest t y e h g)
numbers_same t n m a b (Viable.plain g) (Viable.not_viable y e h w) = (refl, refl)
numbers_same t n m a b (Viable.plain g) (Viable.plain h) = (refl, refl)

-- ---- texts without an extension

all_drop : (p : ℕ → Bool) (k : ℕ) (xs : List ℕ) → list_all p xs ≡ true → list_all p (drop k xs) ≡ true
all_drop p zero xs all = all
all_drop p (suc k) [] all = refl
all_drop p (suc k) (x ∷ xs) all = all_drop p k xs (and_parts (p x) (list_all p xs) all).1

ends_apart : (p : ℕ → Bool) (xs : List ℕ) → ends p xs ≡ true → ¬ (ends (λ c. not (p c)) xs ≡ true)
ends_apart p [] h e = true≢false (sym h)
ends_apart p (x ∷ []) h e = true≢false (sym h ∙ not-true (p x) e)
ends_apart p (x ∷ y ∷ xs) h e = ends_apart p (y ∷ xs) h e

-- a text of digits and plus signs has none
pub no_extension : (t : List ℕ) → list_all is_inner t ≡ true → HasNoExtension t
no_extension t all k d h =
    let last = announced_ends h.announcement (length d) (not (length h.sign == 0)) h.announced in
    let inner = and_parts (list_all is_inner h.announcement) (list_all is_inner (d ++ h.sign))
    (sym (list_all-append is_inner h.announcement (d ++ h.sign)) ∙ ap (list_all is_inner) (sym h.whole) ∙ all_drop is_inner k t all) in
    ends_apart is_inner h.announcement
    (ends_all is_inner h.announcement (λ e. true≢false (sym last ∙ ap (ends is_outer) e)) inner.0) last
