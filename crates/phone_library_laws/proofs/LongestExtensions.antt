-- An announcement and digits behind a digit are a text's longest extension.
use Rattle.std.proofs.Common.{◌≡◌, ℕ, ◌≤◌, Bool, true, false, not, List, [], ◌∷◌, ◌++◌, length}
use Rattle.std.proofs.Common.{length-append, append_assoc, append-nil, refl, ap, sym, subst, ◌∙◌}
use Rattle.std.proofs.Common.{true≢false, arith, ⊎_elim, ◌<◌}
use Rattle.std.proofs.lemmas.Bool.{cases_lt, false_from_ne_true, not-true, or_left, or_right}
use Rattle.std.proofs.lemmas.List.Folds.{list_any-append}
use Rattle.std.specs.List.{list_all, list_any}
use Rattle.phone_chars.specs.Characters.{is_nd}
use Rattle.phone_parts.specs.Longest.{IsWithoutLongest}
use Rattle.phone_parts.specs.Suffixes.{is_sign}
use Rattle.phone_parts.specs.Texts.{ends}
use Rattle.phone_parts.proofs.Endings.{nd_sign}
use Rattle.phone_parts.proofs.Ends.{ends-append}
use Rattle.phone_parts.proofs.Longest.{cuts_meet, stops_at_other}
use Rattle.phone_library_text.specs.Announcements.{Announces}
use Rattle.phone_library_text.specs.Extensions.{HasLongestExtension}
use Rattle.phone_library_text.specs.Scans.{IsSignless, allowed, announces}
use Rattle.phone_library_text.proofs.Announced.{announced_of, announces_of}
use Rattle.phone_library_text.proofs.Extended.{longest_announced}
use Rattle.phone_library_text.proofs.NoDigits.{all_others, no_digit, not_nothing}
use Rattle.phone_library_text.proofs.Outers.{ends_all}

-- a text that ends in a member, parted before it
pub record IsPartedLast (p : ℕ → Bool) (text : List ℕ) : Type 0 where
  pub front : List ℕ
  pub last : ℕ
  pub whole : text ≡ front ++ last ∷ []
  pub member : p last ≡ true

pub parted_last : (p : ℕ → Bool) (text : List ℕ) → ends p text ≡ true → IsPartedLast p text
parted_last p [] h = absurd (true≢false (sym h))
parted_last p (c ∷ []) h = record { front = []; last = c; whole = refl; member = h }
parted_last p (c ∷ d ∷ cs) h =
    let r = parted_last p (d ∷ cs) h in
    record {
      front = c ∷ r.front;
      last = r.last;
      whole = ap (λ t. c ∷ t) r.whole;
      member = r.member;
    }

-- no text ends in a member of a set and in a character that is none
apart : (p : ℕ → Bool) (xs : List ℕ) → ends p xs ≡ true → ends (λ c. not (p c)) xs ≡ false
apart p [] h = refl
apart p (x ∷ []) h = ap not h
apart p (x ∷ y ∷ xs) h = apart p (y ∷ xs) h

not_nil : (xs : List ℕ) → 1 ≤ length xs → ¬ (xs ≡ [])
not_nil xs some e = omega (arith, some, ap length e)

module _ (front w e : List ℕ) (last : ends is_nd front ≡ true)
    (announced : Announces w (length e) false) (digits : list_all is_nd e ≡ true)
    (some : 1 ≤ length e) where
  abbrev text : List ℕ
  text = front ++ (w ++ e)

  abbrev head : List ℕ
  head = front ++ w

  parts : text ≡ head ++ e
  parts = sym (append_assoc front w e)

  -- the text ends in a digit, and in no number sign
  ends_digit : ends is_nd text ≡ true
  ends_digit = ap (ends is_nd) parts ∙ ends-append is_nd head e (not_nil e some)
      ∙ ends_all is_nd e (not_nil e some) digits

  no_sign : ends is_sign text ≡ false
  no_sign = false_from_ne_true _ (λ h.
      let cut = parted_last is_sign text h in
      let digit = parted_last is_nd text ends_digit in
      let other = ends-append is_nd cut.front (cut.last ∷ []) (λ f. cc) in
      true≢false (sym ends_digit ∙ ap (ends is_nd) cut.whole ∙ other ∙ nd_sign cut.last cut.member))

  signless : IsSignless text text false
  signless = record {
    sign = [];
    whole = sym (append-nil text);
    signs = record { only = refl; few = omega arith };
    told = refl;
    none_left = λ t. no_sign;
  }

  -- the announcement is there, and ends in no digit
  some_word : ¬ (w ≡ [])
  some_word f = not_nothing (length e) false (subst (λ t. Announces t (length e) false) f announced)

  word_others : list_all (λ c. not (is_nd c)) w ≡ true
  word_others = all_others w (no_digit w (length e) false announced)

  head_other : IsPartedLast (λ c. not (is_nd c)) head
  head_other = parted_last (λ c. not (is_nd c)) head
      (ends-append (λ c. not (is_nd c)) front w some_word
      ∙ ends_all (λ c. not (is_nd c)) w some_word word_others)

  run : IsWithoutLongest (λ t. list_all is_nd t ≡ true) text head
  run = record {
    end = e;
    whole = parts;
    kind = digits;
    longest = λ before other cut all.
        stops_at_other is_nd head e head_other.front head_other.last head_other.whole
        (not-true _ head_other.member) before other (sym parts ∙ cut) all;
  }

  -- no longer end announces, as it would have a digit
  word : IsWithoutLongest (λ t. announces (allowed (length e) false) t ≡ true) head front
  word = record {
    end = w;
    whole = refl;
    kind = announces_of w (length e) false announced;
    longest = λ before other cut told.
        ⊎_elim
        (λ (less : length before < length front). absurd (longer before other cut told less))
        (λ (more : length front ≤ length before). more)
        (cases_lt (length before) (length front));
  }
    where
      longer : (before other : List ℕ) → head ≡ before ++ other →
          announces (allowed (length e) false) other ≡ true → ¬ (length before < length front)
      longer before other cut told less =
          let digit = parted_last is_nd front last in
          let seam : digit.front ++ digit.last ∷ w ≡ before ++ other =
          sym (append_assoc digit.front (digit.last ∷ []) w) ∙ ap (λ t. t ++ w) (sym digit.whole)
          ∙ cut in
          let size : length before ≤ length digit.front =
          omega (
            arith,
            less,
            ap length digit.whole,
            length-append digit.front (digit.last ∷ []),
          ) in
          let m = cuts_meet digit.front (digit.last ∷ w) before other seam size in
          let there : list_any is_nd other ≡ true =
          ap (list_any is_nd) m.2 ∙ list_any-append is_nd m.0 (digit.last ∷ w)
          ∙ or_right (list_any is_nd m.0) _ (or_left _ _ digit.member) in
          true≢false (sym there ∙ no_digit other (length e) false
          (announced_of other (length e) false told))

  pub longest_extension : HasLongestExtension text front e
  unfolding run
  longest_extension = longest_announced text text head false signless run front some word
