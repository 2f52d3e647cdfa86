-- Digits that no layout is for are laid out as they are; and what is laid out with quiet
-- punctuation is with separators.
use Rattle.std.proofs.Common.{◌≡◌, inl, inr, ℕ, ◌≤◌, ◌||◌, Bool, true, List, length, chars, None}
use Rattle.std.proofs.Common.{ap, ◌∙◌, sym, subst, arith}
use Rattle.std.proofs.lemmas.Bool.{and_parts, or_cases, or_left, or_right}
use Rattle.std.specs.List.{list_all}
use Rattle.phone_chars.specs.Characters.{is_digit, is_punctuation, is_separator}
use Rattle.phone_parts.proofs.Ends.{all_wider}
use Rattle.phone_values.specs.Numbers.{IsHeld, text_of}
use Rattle.phone_values.specs.declared.mode.Mode.TheVariants.{International, Rfc3966}
use Rattle.phone_values.specs.declared.reading.Reading.{Reading}
use Rattle.phone_library_text.proofs.Outers.{ends_all}
use Rattle.phone_values.specs.declared.rules.Rules.{Rules}
use Rattle.phone_print.specs.Layouts.{laid, layout_by}
use Rattle.phone_print.specs.Texts.{laid_out_by}
use Rattle.phone_print.proofs.TextsLaid.{laid-rfc3966}
use Rattle.phone_records.specs.declared.loader.Metadata.{Metadata}
use Rattle.phonenumber.proofs.BackNumbers.{list_all-text_of}
use Rattle.phonenumber.proofs.BackTexts.{chars-low, low_digits}
use Rattle.phone_library_laws.specs.Layouts.{IsLaidOut, is_quiet}
use Rattle.phone_library_laws.proofs.CodedNumbers.{all_digits}

-- digits alone
digits_laid : (between : ℕ → Bool) (t : List ℕ) → list_all is_digit t ≡ true → 1 ≤ length t →
    IsLaidOut between t t
digits_laid between t all some = record {
  only = all_wider is_digit (λ c. is_digit c || between c)
      (λ c h. or_left (is_digit c) (between c) h) t all;
  same = all_digits t all;
  last = ends_all is_digit t (λ e. omega (arith, some, ap length e)) all;
}

pub without_layout : (whose : Rules) (m : Metadata) (n : Reading) → IsHeld n.national →
    1 ≤ length (text_of n.national) →
    layout_by whose m International None (text_of n.national) ≡ None →
    IsLaidOut is_quiet (chars (laid_out_by whose m International None n)) (text_of n.national)
without_layout whose m n held some none =
    let d = text_of n.national in
    let all = list_all-text_of n.national held in
    let as_is : chars (laid_out_by whose m International None n) ≡ d =
    ap (λ o. chars (laid o m International n.carrier d)) none ∙ chars-low d (low_digits d all) in
    subst (λ t. IsLaidOut is_quiet t d) (sym as_is) (digits_laid is_quiet d all some)

-- the text of RFC 3966 is laid out as the international one
pub laid_alike : (whose : Rules) (m : Metadata) (n : Reading) (d : List ℕ) →
    IsLaidOut is_quiet (chars (laid_out_by whose m International None n)) d →
    IsLaidOut is_separator (chars (laid_out_by whose m Rfc3966 None n)) d
laid_alike whose m n d h =
    subst (λ t. IsLaidOut is_separator (chars t) d) (laid-rfc3966
    (layout_by whose m International None (text_of n.national)) m n.carrier (text_of n.national)) (record {
      only = all_wider (λ c. is_digit c || is_quiet c) (λ c. is_digit c || is_separator c) wider
          (chars (laid_out_by whose m International None n)) h.only;
      same = h.same;
      last = h.last;
    })
  where
    wider : (c : ℕ) → (is_digit c || is_quiet c) ≡ true → (is_digit c || is_separator c) ≡ true
    wider c e = elim (or_cases (is_digit c) (is_quiet c) e) [
      | inl digit ↦ or_left _ _ digit
      | inr quiet ↦ or_right _ _ (or_left _ _ (and_parts (is_punctuation c) _ quiet).0)
    ]
