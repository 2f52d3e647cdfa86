-- The premises of a number, by the text that it is laid out as.
use Rattle.std.proofs.Common.{◌≡◌, inl, inr, ◌≤◌, ◌&&◌, ℕ, Bool, true, false, true≢false, not, nat_le, nat_lt}
use Rattle.std.proofs.Common.{List, [], ◌∷◌, filter, length, chars, None, Some}
use Rattle.std.proofs.Common.{sym, ap, ◌∙◌, leb-true, ltb-true}
use Rattle.std.proofs.lemmas.Bool.{and_parts}
use Rattle.std.proofs.lemmas.Option.{same_Some}
use Rattle.std.specs.List.{list_any}
use Rattle.std.specs.Option.{option_map_or}
use Rattle.phone_chars.specs.Characters.{is_digit, is_one_of, is_punctuation, is_separator}
use Rattle.phone_values.specs.Numbers.{text_of}
use Rattle.phone_values.specs.declared.mode.Mode.TheVariants.{International}
use Rattle.phone_plans.specs.CodeLookUps.{first_of, territories}
use Rattle.phone_territory.specs.Prefixes.{is_benign_prefix}
use Rattle.phone_parts.specs.Texts.{ends}
use Rattle.phone_records.specs.declared.loader.Metadata.{Metadata}
use Rattle.phone_values.specs.declared.reading.Reading.{Reading}
use Rattle.phonenumber.specs.Plain.{has_digits, IsAnnouncedSafely, IsPlain, IsPlainInternational, IsPlainRfc3966}
use Rattle.phone_print.specs.Texts.{laid_out}

-- the value isn't 0, and there are so many digits
abbrev pub counts : Reading → ℕ → Bool
counts n least =
    let digits = length (text_of n.national) in
    nat_lt 0 n.national.value && (nat_le least digits && nat_le digits 17)

pub is_plain : {db : List Metadata} {n : Reading} {least : ℕ} {m : Metadata} →
    first_of (territories n.code.value db) ≡ Some m → counts n least ≡ true → IsPlain db n least m
is_plain {n = n} {least = least} listed e =
    let value = and_parts (nat_lt 0 n.national.value) _ e in
    let digits = and_parts (nat_le least (length (text_of n.national))) _ value.1 in
    record {
      listed = listed;
      not_zero = ltb-true _ _ value.0;
      long_enough = leb-true _ _ digits.0;
      short_enough = leb-true _ _ digits.1;
    }

-- a text without the characters of a set
abbrev pub without : (ℕ → Bool) → List ℕ → List ℕ
without members t = filter (λ c. not (members c)) (chars t)

-- a text has a character that announces an extension
abbrev pub announces : List ℕ → Bool
announces t = list_any (is_one_of (120 ∷ 126 ∷ 0xFF5E ∷ [])) (chars t)

pub rfc3966 : {db : List Metadata} {n : Reading} (m : Metadata) {text : List ℕ} →
    laid_out m International None n ≡ text → IsPlain db n 3 m → has_digits n.extension ≡ true →
    without is_separator text ≡ text_of n.national → IsPlainRfc3966 db n
rfc3966 m out plain extension parted = record {
  territory = m;
  plain = plain;
  extension = extension;
  only_parted = ap (without is_separator) out ∙ parted;
}

pub international : {db : List Metadata} {n : Reading} (m : Metadata) {text : List ℕ} →
    laid_out m International None n ≡ text → IsPlain db n 2 m → has_digits n.extension ≡ true →
    option_map_or length n.extension 0 ≤ 7 → without is_punctuation text ≡ text_of n.national →
    announces text ≡ false → IsPlainInternational db n
international m out plain extension few parted quiet = record {
  territory = m;
  plain = plain;
  extension = extension;
  few_digits = few;
  only_parted = ap (without is_punctuation) out ∙ parted;
  no_indicator = ap announces out ∙ quiet;
}

-- a text ends in an ASCII digit
abbrev pub ends_in_digit : List ℕ → Bool
ends_in_digit t = ends is_digit (chars t)

pub benign : (m : Metadata) (n : Reading) {text : List ℕ} →
    laid_out m International None n ≡ text → is_benign_prefix m.preferred_extension_prefix ≡ true →
    ends_in_digit text ≡ true → IsAnnouncedSafely m n
benign m n out known digit = inr (known, ap ends_in_digit out ∙ digit)

-- a prefix that is none of the benign ones
pub not_known : (m : Metadata) (n : Reading) →
    is_benign_prefix m.preferred_extension_prefix ≡ false → ¬ (IsAnnouncedSafely m n)
not_known m n other (inl none) = true≢false (sym (ap is_benign_prefix none) ∙ other)
not_known m n other (inr (known, digit)) = true≢false (sym known ∙ other)

-- a prefix behind a text that doesn't end in a digit
pub not_behind_digit : (m : Metadata) (n : Reading) {text p : List ℕ} →
    m.preferred_extension_prefix ≡ Some p → laid_out m International None n ≡ text →
    ends_in_digit text ≡ false → ¬ (IsAnnouncedSafely m n)
not_behind_digit m n some out other (inl none) =
    true≢false (ap (λ o. option_map_or (λ _. true) o false) (sym some ∙ none))
not_behind_digit m n some out other (inr (known, digit)) =
    true≢false (sym digit ∙ ap ends_in_digit out ∙ other)

-- a number that the first territory of its code lays out as this text
module _ (db : List Metadata) (n : Reading) (m : Metadata)
    (listed : first_of (territories n.code.value db) ≡ Some m)
    (text : List ℕ) (out : laid_out m International None n ≡ text) where
  laid_alike : (t : Metadata) → first_of (territories n.code.value db) ≡ Some t →
      text ≡ laid_out t International None n
  laid_alike t e =
      let same = same_Some m t (sym listed ∙ e) in
      sym out ∙ ap (λ x. laid_out x International None n) same

  pub not_rfc3966 : ¬ (without is_separator text ≡ text_of n.national) → ¬ (IsPlainRfc3966 db n)
  not_rfc3966 other h =
      other (ap (without is_separator) (laid_alike h.territory h.plain.listed) ∙ h.only_parted)

  pub not_international : ¬ (without is_punctuation text ≡ text_of n.national) →
      ¬ (IsPlainInternational db n)
  not_international other h =
      other (ap (without is_punctuation) (laid_alike h.territory h.plain.listed) ∙ h.only_parted)

  pub announced : announces text ≡ true → ¬ (IsPlainInternational db n)
  announced e h =
      true≢false (sym e ∙ ap announces (laid_alike h.territory h.plain.listed) ∙ h.no_indicator)
