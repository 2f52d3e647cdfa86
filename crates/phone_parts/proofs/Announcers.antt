-- A text none of whose characters announces an extension has none.
use Rattle.std.proofs.Common.{◌≡◌, ◌<◌, ℕ, zero, suc, Bool, true, false, not, ◌||◌, List, [], ◌∷◌, ◌++◌, All, chars, drop, codes, nat_lt, refl, ap, sym, ◌∙◌, arith, ltb-true, true≢false}
use Rattle.std.proofs.lemmas.Bool.{and_parts, not-true, or_left, or_right}
use Rattle.std.proofs.lemmas.Str.{chars-IsAscii}
use Rattle.std.proofs.lemmas.Str.Ascii.{IsAscii-from_all}
use Rattle.std.specs.List.{list_any, list_all}
use Rattle.ucd_case.proofs.Computing.{ucd_case}
use Rattle.phone_chars.specs.Characters.{is_digit, is_one_of}
use Rattle.phone_parts.specs.Suffixes.{HasNoSuffix, IsSuffix, announcers, announces, indicators, is_plain}
use Rattle.phone_parts.specs.Texts.{begins}
use Rattle.phone_parts.specs.declared.suffix.Form.{Form}
use Rattle.phone_parts.specs.declared.suffix.Form.TheVariants.{Parameter, Indicated, NumberSign}
use Rattle.phone_parts.proofs.Endings.{member_passes}
use Rattle.phone_parts.proofs.Foldings.{any_like_begins, like_begins, simple_fold-digit}
use Rattle.phone_parts.proofs.PrintedInternational.{digit_nd}
use Rattle.phone_parts.proofs.PrintedTexts.{digit_passes}

indicators_announce : list_all (begins announces) indicators ≡ true
unfolding ucd_case
indicators_announce = refl

parameter_announces : begins announces (codes ";ext=") ≡ true
unfolding ucd_case
parameter_announces = refl

sign_announces : announces 35 ≡ true
unfolding ucd_case
sign_announces = refl

marks_announce_none : list_all (λ c. not (announces c)) (32 ∷ 40 ∷ 41 ∷ 43 ∷ 45 ∷ 46 ∷ 47 ∷ []) ≡ true
unfolding ucd_case
marks_announce_none = refl

-- a text that begins with a member, or whose end has one, has one
any_of_begins : (p : ℕ → Bool) (xs : List ℕ) → begins p xs ≡ true → list_any p xs ≡ true
any_of_begins p [] e = absurd (true≢false (sym e))
any_of_begins p (x ∷ xs) e = or_left _ _ e

any_of_end : (p : ℕ → Bool) (front rest : List ℕ) → list_any p rest ≡ true → list_any p (front ++ rest) ≡ true
any_of_end p [] rest e = e
any_of_end p (x ∷ front) rest e = or_right _ _ (any_of_end p front rest e)

any_of_drop : (p : ℕ → Bool) (k : ℕ) (xs : List ℕ) → list_any p (drop k xs) ≡ true → list_any p xs ≡ true
any_of_drop p zero xs e = e
any_of_drop p (suc k) [] e = e
any_of_drop p (suc k) (x ∷ xs) e = or_right _ _ (any_of_drop p k xs e)

suffix_announces : (w : List ℕ) (f : Form) (d : List ℕ) → IsSuffix w f d → list_any announces w ≡ true
suffix_announces w Parameter d h =
    any_of_begins announces w (ap (begins announces) h.whole ∙ like_begins (is_one_of announcers) h.name (codes ";ext=") d h.named parameter_announces)
suffix_announces w Indicated d h =
    let a = h.announced in
    ap (list_any announces) h.whole
    ∙ any_of_end announces h.lead h.rest
    (any_of_begins announces h.rest (ap (begins announces) a.whole ∙ any_like_begins (is_one_of announcers) a.word indicators a.ending a.announces indicators_announce))
suffix_announces w NumberSign d h =
    ap (list_any announces) h.whole ∙ any_of_end announces h.lead (d ++ 35 ∷ []) (any_of_end announces d (35 ∷ []) (or_left _ _ sign_announces))

pub no_announcer : (text : List ℕ) → list_any announces text ≡ false → HasNoSuffix text
no_announcer text none k f d h = true≢false (sym (any_of_drop announces k text (suffix_announces (drop k text) f d h)) ∙ none)

-- no plain character announces one
pub plain_announces_none : (c : ℕ) → is_plain c ≡ true → announces c ≡ false
plain_announces_none c plain = by (is_digit c) refl plain
  where
    by : (b : Bool) → is_digit c ≡ b → (b || is_one_of (32 ∷ 40 ∷ 41 ∷ 43 ∷ 45 ∷ 46 ∷ 47 ∷ []) c) ≡ true → announces c ≡ false
    by true digit h =
        ap (is_one_of announcers) (simple_fold-digit c (digit_nd c digit)) ∙ not-true _ (digit_passes (λ d. not (is_one_of announcers d)) refl c digit)
    by false e h = not-true _ (member_passes (λ d. not (announces d)) (32 ∷ 40 ∷ 41 ∷ 43 ∷ 45 ∷ 46 ∷ 47 ∷ []) c marks_announce_none h)

-- plain characters are ASCII
plain_small : (c : ℕ) → is_plain c ≡ true → c < 128
plain_small c plain = ltb-true c 128 (by (is_digit c) refl plain)
  where
    by : (b : Bool) → is_digit c ≡ b → (b || is_one_of (32 ∷ 40 ∷ 41 ∷ 43 ∷ 45 ∷ 46 ∷ 47 ∷ []) c) ≡ true → nat_lt c 128 ≡ true
    by true digit h = digit_passes (λ d. nat_lt d 128) refl c digit
    by false e h = member_passes (λ d. nat_lt d 128) (32 ∷ 40 ∷ 41 ∷ 43 ∷ 45 ∷ 46 ∷ 47 ∷ []) c refl h

all_small : (bs : List ℕ) → list_all is_plain bs ≡ true → All (λ b. b < 128) bs
all_small [] plain k d h = absurd (omega (arith, h))
all_small (c ∷ cs) plain zero d h = plain_small c (and_parts (is_plain c) (list_all is_plain cs) plain).0
all_small (c ∷ cs) plain (suc k) d h = all_small cs (and_parts (is_plain c) (list_all is_plain cs) plain).1 k d (omega (arith, h))

none_of_plain : (cs : List ℕ) → list_all is_plain cs ≡ true → list_any announces cs ≡ false
none_of_plain [] plain = refl
none_of_plain (c ∷ cs) plain =
    let both = and_parts (is_plain c) (list_all is_plain cs) plain in
    ap (λ b. b || list_any announces cs) (plain_announces_none c both.0) ∙ none_of_plain cs both.1

-- a text of plain bytes announces none
pub plain_bytes_announce_none : (text : List ℕ) → list_all is_plain text ≡ true → list_any announces (chars text) ≡ false
plain_bytes_announce_none text plain =
    ap (list_any announces) (chars-IsAscii text (IsAscii-from_all text (all_small text plain))) ∙ none_of_plain text plain
