-- What the readers find in a printed international text whose number ends in a digit, before any
-- announcement by a word.
use Rattle.std.proofs.Common.{◌≡◌, ℕ, ◌≤◌, ◌==◌, Bool, true, false, not, ◌&&◌, ◌||◌, List, [], ◌∷◌, ◌++◌, length, eqb-true, Some, None, Ok, refl, ap, sym, subst, ◌∙◌, true≢false, arith, append-nil, append_assoc}
use Rattle.std.proofs.lemmas.Bool.{and_parts, and_from, false_from_ne_true, not-true, or_left, or_right, or_parts}
use Rattle.std.proofs.lemmas.List.Folds.{list_all-append}
use Rattle.std.specs.List.{list_any, list_all}
use Rattle.ucd_category.proofs.Computing.{ucd_category}
use Rattle.phone_chars.specs.Characters.{is_digit, is_letter, is_nd, is_number, is_one_of, is_punctuation}
use Rattle.phone_chars.specs.Cuts.{after_front}
use Rattle.phone_parts.specs.Announcements.{IsAnnouncement, is_space}
use Rattle.phone_parts.specs.Cores.{IsCore, is_last}
use Rattle.phone_parts.specs.Naturals
use Rattle.phone_parts.specs.Naturals.{IsNatural}
use Rattle.phone_parts.specs.Parts.{Parts}
use Rattle.phone_parts.specs.Readers
use Rattle.phone_parts.specs.Readers.{HasParts}
use Rattle.phone_parts.specs.Suffixes.{IsEnding, IsIndicated, HasLongestSuffix, is_gap, is_lead, is_mark, is_sign}
use Rattle.phone_parts.specs.declared.suffix.Form.TheVariants.{Indicated}
use Rattle.phone_parts.specs.Texts.{begins, ends}
use Rattle.phone_parts.proofs.Endings.{AreApart, apart_members, is_35, members_apart}
use Rattle.phone_parts.proofs.Ends.{all_wider, ends-append, ends-append_run, ends_wider}
use Rattle.phone_parts.proofs.OneForm.{word_some}
use Rattle.phone_parts.proofs.Openings.{is_opening}
use Rattle.phone_parts.proofs.PrintedCores.{IsUnmarked, signed_core, unmarked_more, unslashed}
use Rattle.phone_parts.proofs.PrintedInternational.{announcing, all_printed, all_signed, digit_last, digit_nd, digit_no_lead, ends_signed, has_space, is_printed, is_signed, no_ending, opening_signed, sign_signed, signed, signed-append, some_text, x_signed}
use Rattle.phone_parts.proofs.PrintedSuffixes.{longest_behind}
use Rattle.phone_parts.proofs.PrintedTexts.{digit_passes, is_slash, none_apart, none_append}
use Rattle.phone_parts.proofs.TelRefusals.{spaced}

-- ---- no second number begins before a digit

-- a character behind which spaces and an x tell nothing
abbrev ends_marks : ℕ → Bool
ends_marks c = not (c == 32) && not (is_slash c)

digit_ends_marks : (c : ℕ) → is_digit c ≡ true → ends_marks c ≡ true
digit_ends_marks = digit_passes ends_marks refl

-- spaces and an x don't begin before such a character, if no x stands there
no_x_within : (c : ℕ) (cs text : List ℕ) → list_any (λ d. d == 120) (c ∷ cs) ≡ false →
    ends ends_marks (c ∷ cs) ≡ true →
    begins (λ d. d == 120) (after_front (λ d. d == 32) ((c ∷ cs) ++ text)) ≡ false
no_x_within c [] text none last =
    let parts = or_parts (c == 120) false none in
    let other = not-true (c == 32) (and_parts (not (c == 32)) (not (is_slash c)) last).0 in
    rw other parts.0
no_x_within c (d ∷ cs) text none last =
    let parts = or_parts (c == 120) (list_any (λ x. x == 120) (d ∷ cs)) none in
    at (c == 32) refl parts.0 (no_x_within d cs text parts.1 last)
  where
    at : (b : Bool) → (c == 32) ≡ b → (c == 120) ≡ false →
        begins (λ x. x == 120) (after_front (λ x. x == 32) ((d ∷ cs) ++ text)) ≡ false →
        begins (λ x. x == 120) (after_front (λ x. x == 32) (c ∷ ((d ∷ cs) ++ text))) ≡ false
    at true e no_x later = rw e later
    at false e no_x later = rw e no_x

unmarked_within : (c : ℕ) (cs text : List ℕ) → list_any (λ d. d == 120) (c ∷ cs) ≡ false →
    ends ends_marks (c ∷ cs) ≡ true → IsUnmarked text →
    IsUnmarked ((c ∷ cs) ++ text)
unmarked_within c [] text none last later =
    let other = not-true (is_slash c) (and_parts (not (c == 32)) (not (is_slash c)) last).1 in
    unmarked_more c text
    (ap (λ b. b && begins (λ d. d == 120) (after_front (λ d. d == 32) text)) other) later
unmarked_within c (d ∷ cs) text none last later =
    let parts = or_parts (c == 120) (list_any (λ x. x == 120) (d ∷ cs)) none in
    unmarked_more c ((d ∷ cs) ++ text) (no_mark (is_slash c) (no_x_within d cs text parts.1 last))
    (unmarked_within d cs text parts.1 last later)
  where
    no_mark : (b : Bool) →
        begins (λ x. x == 120) (after_front (λ x. x == 32) ((d ∷ cs) ++ text)) ≡ false →
        (b && begins (λ x. x == 120) (after_front (λ x. x == 32) ((d ∷ cs) ++ text))) ≡ false
    no_mark true e = e
    no_mark false e = refl

-- ---- the characters behind the number

-- those of an announcement, and digits
abbrev is_told : ℕ → Bool
is_told c = is_space c || (is_letter c || (is_mark c || is_digit c))

slash_told : AreApart is_slash is_told
unfolding ucd_category
slash_told = apart_members is_told (47 ∷ 92 ∷ []) refl

told_35 : is_told 35 ≡ false
unfolding ucd_category
told_35 = refl

sign_told : AreApart is_sign is_told
sign_told c e = false_from_ne_true (is_sign c)
    (λ f. true≢false (sym e ∙ ap is_told (is_35 c f) ∙ told_35))

mark_not_last : AreApart is_last is_mark
unfolding ucd_category
mark_not_last = members_apart is_last (58 ∷ 46 ∷ 0xFF0E ∷ []) refl

space_not_last : AreApart is_last is_space
unfolding ucd_category
space_not_last c e = ap is_last (eqb-true c 32 e)

space_lead : (c : ℕ) → is_space c ≡ true → is_lead c ≡ true
space_lead c e = ap is_lead (eqb-true c 32 e)

space_gap : (c : ℕ) → is_space c ≡ true → is_gap c ≡ true
space_gap c e = ap is_gap (eqb-true c 32 e)

letter_last : (c : ℕ) → is_letter c ≡ true → is_last c ≡ true
letter_last c e = ap (λ b. b || is_number c || (c == 35)) e

-- a run with a character ends in one of its set
all_ends : (p : ℕ → Bool) (xs : List ℕ) → ¬ (xs ≡ []) → list_all p xs ≡ true → ends p xs ≡ true
all_ends p [] some all = absurd (some refl)
all_ends p (x ∷ xs) some all =
    let parts = and_parts (p x) (list_all p xs) all in
    ends-append_run p (x ∷ []) xs parts.0 parts.1

-- ---- the reading

-- an indicator behind the number, and what is cut off behind it
read_behind : (cd q tail trailing d : List ℕ) → list_all is_digit cd ≡ true →
    list_all is_printed q ≡ true → ends is_digit q ≡ true → IsIndicated tail d →
    list_all is_told tail ≡ true → ends is_last tail ≡ true → list_any is_last trailing ≡ false →
    IsNatural (signed cd q ++ (tail ++ trailing))
    (Ok (record { national = signed cd q; prefix = None; extension = Some d }))
read_behind cd q tail trailing d code printed digit indicated told last none =
    let s = signed cd q in
    let all : list_all is_signed s ≡ true = all_signed cd q code printed in
    let s_last : ends is_digit s ≡ true = ends_signed is_digit cd q digit in
    let unmarked : IsUnmarked (s ++ tail) =
    unmarked_within 43 (cd ++ 32 ∷ q) tail (none_apart (λ x. x == 120) is_signed x_signed s all)
    (ends_wider is_digit ends_marks digit_ends_marks s s_last)
    (unslashed tail (none_apart is_slash is_told slash_told tail told)) in
    let core : IsCore ((s ++ tail) ++ trailing) (s ++ tail) =
    signed_core ((cd ++ 32 ∷ q) ++ tail) trailing none
    (ends-append is_last s tail (some_text is_last tail last) ∙ last) unmarked in
    let longest : HasLongestSuffix (s ++ tail) s d =
    longest_behind (s ++ tail) s tail Indicated d refl
    (none_apart is_opening is_signed opening_signed s all)
    (ends_wider is_digit (λ x. not (is_lead x)) digit_no_lead s s_last)
    (none_append is_sign s tail (none_apart is_sign is_signed sign_signed s all)
    (none_apart is_sign is_told sign_told tail told)) indicated in
    subst (λ t. IsNatural t (Ok (record { national = s; prefix = None; extension = Some d })))
    (append_assoc s tail trailing)
    (Naturals.extended (s ++ tail) s d core longest)

module _ (a : List ℕ) (h : IsAnnouncement a) where
  word_not_empty : ¬ (h.word ≡ [])
  word_not_empty = word_some h.word h.announces

  -- lead and indicator before any ending
  indicated : (ending d : List ℕ) → IsEnding ending d → IsIndicated (h.lead ++ (h.word ++ ending)) d
  indicated ending d is_ending = record {
    lead = h.lead;
    rest = h.word ++ ending;
    whole = refl;
    leads = all_wider is_space is_lead space_lead h.lead h.leads;
    announced = record {
      word = h.word;
      ending = ending;
      whole = refl;
      announces = h.announces;
      ends = is_ending;
    };
  }

  told : (ending : List ℕ) → list_all is_told ending ≡ true →
      list_all is_told (h.lead ++ (h.word ++ ending)) ≡ true
  told ending all =
      list_all-append is_told h.lead (h.word ++ ending)
      ∙ and_from _ _ (all_wider is_space is_told (λ c e. or_left _ _ e) h.lead h.leads)
      (list_all-append is_told h.word ending
      ∙ and_from _ _ (all_wider is_letter is_told
      (λ c e. or_right (is_space c) _ (or_left _ _ e)) h.word h.letters) all)

  -- the mark and the gap, before digits
  ending_of : (d : List ℕ) → list_all is_digit d ≡ true → length d ≤ 7 →
      IsEnding (h.mark ++ (h.gap ++ d)) d
  ending_of d digits few = record {
    mark = h.mark;
    gap = h.gap;
    sign = [];
    whole = ap (λ t. h.mark ++ (h.gap ++ t)) (sym (append-nil d));
    marks = h.marks;
    gaps = all_wider is_space is_gap space_gap h.gap h.gaps;
    digits = record { only = all_wider is_digit is_nd digit_nd d digits; few = few };
    signs = record { only = refl; few = omega arith };
  }

  told_ending : (d : List ℕ) → list_all is_digit d ≡ true →
      list_all is_told (h.mark ++ (h.gap ++ d)) ≡ true
  told_ending d digits =
      list_all-append is_told h.mark (h.gap ++ d)
      ∙ and_from _ _ (all_wider is_mark is_told
      (λ c e. or_right (is_space c) _ (or_right (is_letter c) _ (or_left _ _ e))) h.mark
      h.marks.only)
      (list_all-append is_told h.gap d
      ∙ and_from _ _ (all_wider is_space is_told (λ c e. or_left _ _ e) h.gap h.gaps)
      (all_wider is_digit is_told
      (λ c e. or_right (is_space c) _ (or_right (is_letter c) _ (or_right (is_mark c) _ e))) d
      digits))

  trailing_not_last : list_any is_last (h.mark ++ h.gap) ≡ false
  trailing_not_last =
      none_append is_last h.mark h.gap
      (none_apart is_last is_mark mark_not_last h.mark h.marks.only)
      (none_apart is_last is_space space_not_last h.gap h.gaps)

  parted : (d : List ℕ) → a ++ d ≡ h.lead ++ (h.word ++ (h.mark ++ (h.gap ++ d)))
  parted d =
      ap (λ t. t ++ d) h.whole ∙ append_assoc h.lead (h.word ++ (h.mark ++ h.gap)) d
      ∙ ap (λ t. h.lead ++ t)
      (append_assoc h.word (h.mark ++ h.gap) d
      ∙ ap (λ t. h.word ++ t) (append_assoc h.mark h.gap d))

  -- an extension without digits, and one with digits
  read : (cd q d : List ℕ) → list_all is_digit cd ≡ true → list_all is_printed q ≡ true →
      ends is_digit q ≡ true → list_all is_digit d ≡ true → length d ≤ 7 →
      IsNatural (signed cd q ++ (a ++ d))
      (Ok (record { national = signed cd q; prefix = None; extension = Some d }))
  read cd q [] code printed digit digits few =
      let tail = h.lead ++ (h.word ++ []) in
      let word_last : ends is_last (h.word ++ []) ≡ true =
      ap (ends is_last) (append-nil h.word)
      ∙ all_ends is_last h.word word_not_empty
      (all_wider is_letter is_last letter_last h.word h.letters) in
      let whole : a ++ [] ≡ tail ++ (h.mark ++ h.gap) =
      append-nil a ∙ h.whole
      ∙ ap (λ t. h.lead ++ (t ++ (h.mark ++ h.gap))) (sym (append-nil h.word))
      ∙ sym (append_assoc h.lead (h.word ++ []) (h.mark ++ h.gap)) in
      subst (λ t. IsNatural (signed cd q ++ t)
      (Ok (record { national = signed cd q; prefix = None; extension = Some [] }))) (sym whole)
      (read_behind cd q tail (h.mark ++ h.gap) [] code printed digit (indicated [] [] no_ending)
      (told [] refl)
      (ends-append is_last h.lead (h.word ++ []) (some_text is_last (h.word ++ []) word_last)
      ∙ word_last) trailing_not_last)
  read cd q (x ∷ xs) code printed digit digits few =
      let d = x ∷ xs in
      let tail = h.lead ++ (h.word ++ (h.mark ++ (h.gap ++ d))) in
      let d_last : ends is_last d ≡ true =
      all_ends is_last d (λ e. cc) (all_wider is_digit is_last digit_last d digits) in
      let last : ends is_last tail ≡ true = ap (ends is_last) (sym (parted d))
      ∙ ends-append is_last a d (λ e. cc) ∙ d_last in
      subst (λ t. IsNatural (signed cd q ++ t)
      (Ok (record { national = signed cd q; prefix = None; extension = Some d })))
      (append-nil tail ∙ sym (parted d))
      (read_behind cd q tail [] d code printed digit
      (indicated (h.mark ++ (h.gap ++ d)) d (ending_of d digits few))
      (told (h.mark ++ (h.gap ++ d)) (told_ending d digits))
      last refl)

pub announced_parts : (cd q a e : List ℕ) → list_all is_digit cd ≡ true →
    list_all (λ c. is_digit c || is_punctuation c) q ≡ true →
    list_any (is_one_of announcing) q ≡ false → ends is_digit q ≡ true → IsAnnouncement a →
    list_all is_digit e ≡ true → length e ≤ 7 →
    HasParts (43 ∷ (cd ++ 32 ∷ (q ++ (a ++ e))))
    (Some (record { national = 43 ∷ (cd ++ 32 ∷ q); prefix = None; extension = Some e }))
announced_parts cd q a e code printed none digit h digits few =
    let parts : Parts = record { national = signed cd q; prefix = None; extension = Some e } in
    Readers.as_natural parts (spaced (signed cd (q ++ (a ++ e))) (has_space cd (q ++ (a ++ e))))
    (subst (λ t. IsNatural t (Ok parts)) (sym (signed-append cd q (a ++ e)))
    (read a h cd q e code (all_printed q printed none) digit digits few))
