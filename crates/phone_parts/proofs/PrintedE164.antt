-- What is found in a plus sign and ASCII digits: free text, all of it the national part.
use Rattle.std.proofs.Common.{◌≡◌, ℕ, ◌≤◌, true, false, ◌||◌, List, [], ◌∷◌, length, Some, None, refl, ap, sym, ◌∙◌, true≢false, arith, append-nil}
use Rattle.std.proofs.lemmas.Bool.{and_parts}
use Rattle.std.specs.List.{list_any, list_all}
use Rattle.ucd_case.proofs.Computing.{ucd_case}
use Rattle.ucd_category.proofs.Computing.{ucd_category}
use Rattle.phone_chars.specs.Characters.{is_digit}
use Rattle.phone_parts.specs.Cores.{IsCore, is_last}
use Rattle.phone_parts.specs.Naturals
use Rattle.phone_parts.specs.Parts.{Parts}
use Rattle.phone_parts.specs.Readers
use Rattle.phone_parts.specs.Readers.{HasParts}
use Rattle.phone_parts.specs.Suffixes.{HasNoSuffix}
use Rattle.phone_parts.specs.Tel.{IsTel, is_phonedigit}
use Rattle.phone_parts.specs.Texts.{begins, ends}
use Rattle.phone_parts.proofs.Cores.{undivided, whole_core}
use Rattle.phone_parts.proofs.Endings.{AreApart}
use Rattle.phone_parts.proofs.Ends.{all_wider, ends-append_run}
use Rattle.phone_parts.proofs.Openings.{is_opening, no_suffix}
use Rattle.phone_parts.proofs.PrintedCores.{unslashed}
use Rattle.phone_parts.proofs.PrintedTexts.{digit_apart, digit_passes, is_slash, none_apart, signed_digits}
use Rattle.phone_parts.proofs.Tels.{tel_cuts}

-- a number may end in a digit
digit_is_last : (c : ℕ) → is_digit c ≡ true → is_last c ≡ true
unfolding ucd_category
digit_is_last = digit_passes is_last refl

-- neither a plus sign nor a digit opens an extension
digit_not_opening : AreApart is_opening is_digit
unfolding ucd_case
digit_not_opening = digit_apart is_opening refl

plus_not_opening : is_opening 43 ≡ false
unfolding ucd_case
plus_not_opening = refl

-- the run after the plus sign takes all, so no national part is left
pub not_tel : (d : List ℕ) → list_all is_digit d ≡ true → 1 ≤ length d → (p : Parts) → ¬ (IsTel (43 ∷ d) p)
unfolding ucd_case
not_tel d digits some p h =
    let cuts = tel_cuts (43 ∷ d) p h (43 ∷ d) [] (Some d) (sym (append-nil (43 ∷ d))) (signed_digits d [] digits some refl) in
    true≢false (sym h.some_national ∙ ap (begins is_phonedigit) cuts.national)

ends_in_digit : (d : List ℕ) → list_all is_digit d ≡ true → 1 ≤ length d → ends is_last (43 ∷ d) ≡ true
ends_in_digit [] digits some = absurd (omega (arith, some))
ends_in_digit (c ∷ d) digits some =
    let last = all_wider is_digit is_last digit_is_last (c ∷ d) digits in
    let parts = and_parts (is_last c) (list_all is_last d) last in
    ends-append_run is_last (c ∷ []) d parts.0 parts.1

-- the text is its own core
own_core : (d : List ℕ) → list_all is_digit d ≡ true → 1 ≤ length d → IsCore (43 ∷ d) (43 ∷ d)
own_core d digits some =
    let no_slash = none_apart is_slash is_digit (digit_apart is_slash refl) d digits in
    whole_core (43 ∷ d) refl (ends_in_digit d digits some) (undivided (43 ∷ d) (λ k less. unslashed (43 ∷ d) no_slash k))

-- and no character in it opens an extension
pub no_extension : (d : List ℕ) → list_all is_digit d ≡ true → HasNoSuffix (43 ∷ d)
no_extension d digits =
    no_suffix (43 ∷ d) (ap (λ b. b || list_any is_opening d) plus_not_opening ∙ none_apart is_opening is_digit digit_not_opening d digits)

-- so it is read whole
pub e164_parts : (d : List ℕ) → list_all is_digit d ≡ true → 1 ≤ length d →
    HasParts (43 ∷ d) (Some (record { national = 43 ∷ d; prefix = None; extension = None }))
e164_parts d digits some =
    Readers.as_natural (record { national = 43 ∷ d; prefix = None; extension = None }) (not_tel d digits some)
    (Naturals.plain (43 ∷ d) (own_core d digits some) (no_extension d digits))
