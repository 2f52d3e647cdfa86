-- What the readers find in a dialled number: a number and what announces its extension.
use Rattle.std.proofs.Common.{◌≡◌, ◌⊎◌, inl, inr, ℕ, ◌≤◌, ◌||◌, Bool, true, false, if◌then◌else◌, List, [], ◌∷◌, ◌++◌, codes, length, filter, Option, None, Some, IsUtf8, unwrap_or, refl, ap, sym, subst, ◌∙◌, append-nil, arith}
use Rattle.std.proofs.lemmas.Bool.{and_from, and_parts, or_left, or_right}
use Rattle.std.proofs.lemmas.List.Elements.{filter_map-append}
use Rattle.std.proofs.lemmas.List.Folds.{list_all-append}
use Rattle.std.proofs.lemmas.Str.{IsUtf8-append, chars-append}
use Rattle.std.specs.List.{list_all, list_any}
use Rattle.std.specs.Option.{option_map_or}
use Rattle.std.specs.Str.{chars}
use Rattle.phone_chars.proofs.Norms.{norm_digits}
use Rattle.phone_chars.specs.Characters.{digit_of, is_digit, is_one_of, is_punctuation}
use Rattle.phone_chars.specs.Norm.{norm}
use Rattle.phone_values.specs.Numbers.{IsHeld, text_of}
use Rattle.phone_values.specs.declared.mode.Mode.TheVariants.{International}
use Rattle.phone_records.specs.declared.loader.Metadata.{Metadata}
use Rattle.phone_parts.proofs.AnnouncedParts.{announced_parts}
use Rattle.phone_parts.proofs.Ends.{all_wider}
use Rattle.phone_parts.proofs.PrintedInternational.{international_parts}
use Rattle.phone_parts.proofs.PrintedTexts.{digit_apart, none_apart, none_append}
use Rattle.phone_parts.specs.Texts.{ends}
use Rattle.phone_values.specs.declared.reading.Reading.{Reading}
use Rattle.phonenumber.proofs.BackLaws.{IsAnnounced, IsFoundBefore, punctuated, quiet_between}
use Rattle.phonenumber.proofs.BackNumbers.{list_all-text_of}
use Rattle.phonenumber.proofs.BackPrefixes.{announced_safely}
use Rattle.phonenumber.proofs.BackTexts.{IsUtf8-low, announced, chars-low, is_low, low_announced, low_digits}
use Rattle.phonenumber.proofs.BackViable.{all_from_left, digits_left, indicating, is_parted, no_digits, norm-parted}
use Rattle.phonenumber.specs.Plain.{IsAnnouncedSafely, IsPlainInternational, has_digits}
use Rattle.phone_print.specs.Texts.{extension_part, laid_out}

any_of_left : (p : ℕ → Bool) (t : List ℕ) → 1 ≤ length (filter p t) → list_any p t ≡ true
any_of_left p [] some = absurd (omega (arith, some))
any_of_left p (c ∷ cs) some = at (p c) some (any_of_left p cs)
  where
    at : (b : Bool) → 1 ≤ length (if b then c ∷ filter p cs else filter p cs) →
        (1 ≤ length (filter p cs) → list_any p cs ≡ true) → (b || list_any p cs) ≡ true
    at true some more = refl
    at false some more = more some

-- a laid-out number: digits, and punctuation between them that announces nothing
pub record IsLaid (q digits : List ℕ) : Type 0 where
  pub only : list_all (λ c. is_digit c || is_punctuation c) q ≡ true
  pub quiet : list_any (is_one_of indicating) q ≡ false
  pub digit : list_any is_digit q ≡ true
  pub left : filter is_digit q ≡ digits

-- what is kept of such a text, where punctuation is cut off its end
pub record IsKept (kept digits : List ℕ) : Type 0 where
  pub parted : list_all is_parted kept ≡ true
  pub normal : norm kept ≡ digits

pub kept_of : (q digits kept rest : List ℕ) → IsLaid q digits → q ≡ kept ++ rest →
    list_all is_punctuation rest ≡ true → IsKept kept digits
kept_of q digits kept rest laid whole only_rest =
    let parted : list_all is_parted q ≡ true = quiet_between q laid.only laid.quiet in
    let both = and_parts (list_all is_parted kept) (list_all is_parted rest)
    (sym (list_all-append is_parted kept rest) ∙ sym (ap (list_all is_parted) whole) ∙ parted) in
    let nothing : norm rest ≡ [] =
    norm-parted rest both.1 ∙ no_digits is_punctuation punctuated rest only_rest in
    record {
      parted = both.0;
      normal = sym (append-nil (norm kept)) ∙ ap (λ t. norm kept ++ t) (sym nothing)
          ∙ sym (filter_map-append digit_of kept rest) ∙ sym (ap norm whole) ∙ norm-parted q parted
          ∙ laid.left;
    }

-- digits and a space before such a number are one too
pub coded_laid : (cd q digits : List ℕ) → list_all is_digit cd ≡ true → IsLaid q digits →
    IsLaid (cd ++ 32 ∷ q) (cd ++ digits)
coded_laid cd q digits code h =
    let p : ℕ → Bool = λ c. is_digit c || is_punctuation c in
    let q2 = cd ++ 32 ∷ q in
    let only : list_all p q2 ≡ true =
    list_all-append p cd (32 ∷ q)
    ∙ and_from _ _ (all_wider is_digit p (λ c e. or_left _ _ e) cd code) h.only in
    let quiet : list_any (is_one_of indicating) q2 ≡ false =
    none_append (is_one_of indicating) cd (32 ∷ q)
    (none_apart (is_one_of indicating) is_digit (digit_apart (is_one_of indicating) refl) cd code)
    h.quiet in
    let normal : norm q2 ≡ cd ++ digits =
    filter_map-append digit_of cd (32 ∷ q)
    ∙ ap (λ t. t ++ norm q) (norm_digits cd code)
    ∙ ap (λ t. cd ++ t) (norm-parted q (quiet_between q h.only h.quiet) ∙ h.left) in
    record {
      only = only;
      quiet = quiet;
      digit = some_digit;
      left = sym (norm-parted q2 (quiet_between q2 only quiet)) ∙ normal;
    }
  where
    behind : (cs : List ℕ) → list_any is_digit (cs ++ 32 ∷ q) ≡ true
    behind [] = h.digit
    behind (c ∷ cs) = or_right (is_digit c) _ (behind cs)

    some_digit : list_any is_digit (cd ++ 32 ∷ q) ≡ true
    some_digit = behind cd

-- what announces an extension is UTF-8, and known as characters; it is told behind any number that
-- ends as q does
pub record IsTold (m : Metadata) (q : List ℕ) (e : Option (List ℕ)) : Type 0 where
  pub told : List ℕ
  pub utf8 : IsUtf8 (extension_part m e)
  pub characters : chars (extension_part m e) ≡ told
  pub before : (cd s digits : List ℕ) → list_all is_digit cd ≡ true → IsLaid s digits →
      (ends is_digit q ≡ true → ends is_digit s ≡ true) → IsFoundBefore cd s told e

module _ (m : Metadata) (q : List ℕ) where
  abbrev words : List ℕ
  words = codes " ext. "

  -- by ` ext. `
  by_default : (e : Option (List ℕ)) → (e ≡ None) ⊎ (m.preferred_extension_prefix ≡ None) →
      extension_part m e ≡ announced words e
  by_default None h = refl
  by_default (Some e) (inl none) = cc
  by_default (Some e) (inr none) = rw none

  told_by_default : (e : Option (List ℕ)) → has_digits e ≡ true → option_map_or length e 0 ≤ 7 →
      (e ≡ None) ⊎ (m.preferred_extension_prefix ≡ None) → IsTold m q e
  told_by_default e digits few default =
      let low : list_all is_low (announced words e) ≡ true = low_announced words e refl digits in
      let part = by_default e default in
      record {
        told = announced words e;
        utf8 = subst IsUtf8 (sym part) (IsUtf8-low (announced words e) low);
        characters = ap chars part ∙ chars-low (announced words e) low;
        before = λ cd s ds code laid last.
            international_parts cd s e code laid.only laid.quiet laid.digit digits few;
      }

  -- by a word
  told_by_word : (n : Reading) → has_digits n.extension ≡ true →
      option_map_or length n.extension 0 ≤ 7 → q ≡ chars (laid_out m International None n) →
      IsAnnounced m n → IsTold m q n.extension
  told_by_word n digits few same (inl default) = told_by_default n.extension digits few default
  told_by_word n digits few same (inr h) = at n.extension digits few
    where
      digit_last : ends is_digit q ≡ true
      digit_last = ap (ends is_digit) same ∙ h.after_digit

      at : (e : Option (List ℕ)) → has_digits e ≡ true → option_map_or length e 0 ≤ 7 → IsTold m q e
      at None digits few = told_by_default None digits few (inl refl)
      at (Some e) digits few =
          let p = h.prefix in
          let low : list_all is_low e ≡ true = low_digits e digits in
          let part : extension_part m (Some e) ≡ p ++ e =
          ap (λ o. unwrap_or o (codes " ext. ") ++ e) h.preferred in
          record {
            told = chars p ++ e;
            utf8 = subst IsUtf8 (sym part) (IsUtf8-append p e h.utf8 (IsUtf8-low e low));
            characters = ap chars part ∙ chars-append p e h.utf8
                ∙ ap (λ t. chars p ++ t) (chars-low e low);
            before = λ cd s ds code laid last. (
              s,
              [],
              sym (append-nil s),
              refl,
              announced_parts cd s (chars p) e code laid.only laid.quiet (last digit_last) h.by_word
                  digits few,
            );
          }

module _ (db : List Metadata) (n : Reading) (held : IsHeld n.national)
    (plain : IsPlainInternational db n) where
  abbrev pub laid_text : List ℕ
  laid_text = chars (laid_out plain.territory International None n)

  -- the laid-out text of a plain number
  pub plain_laid : IsLaid laid_text (text_of n.national)
  plain_laid =
      let only : list_all (λ c. is_digit c || is_punctuation c) laid_text ≡ true =
      all_from_left is_punctuation punctuated laid_text
      (ap (list_all is_digit) plain.only_parted ∙ list_all-text_of n.national held) in
      let left : filter is_digit laid_text ≡ text_of n.national =
      digits_left is_punctuation punctuated laid_text only ∙ plain.only_parted in
      record {
        only = only;
        quiet = plain.no_indicator;
        digit = any_of_left is_digit laid_text
            (omega (arith, ap length left, plain.plain.long_enough));
        left = left;
      }

  -- what announces its extension
  pub plain_told : (n.extension ≡ None) ⊎ IsAnnouncedSafely plain.territory n →
      IsTold plain.territory laid_text n.extension
  plain_told benign =
      told_by_word plain.territory laid_text n plain.extension plain.few_digits refl
      (announced_safely plain.territory n benign)
