-- What is written where digits are laid out without a sign, with an extension behind them or none.
use Rattle.std.proofs.Common.{◌≡◌, ◌⊎◌, inl, inr, ℕ, ◌+◌, ◌≤◌, ◌==◌, not, cond, Bool, true}
use Rattle.std.proofs.Common.{false, List, [], ◌∷◌, ◌++◌, length, length-append, filter, chars}
use Rattle.std.proofs.Common.{Option, None, Some, Ok, refl, ap, sym, subst, ◌∙◌, append-nil}
use Rattle.std.proofs.Common.{append_assoc, arith, true≢false}
use Rattle.std.proofs.lemmas.Bool.{and_from, and_parts, cond-false, not-true, or_from}
use Rattle.std.proofs.lemmas.Bool.{or_parts, or_right}
use Rattle.std.proofs.lemmas.List.Elements.{filter-append}
use Rattle.std.specs.List.{list_all, list_any}
use Rattle.ucd_category.proofs.Computing.{ucd_category}
use Rattle.phone_chars.specs.Characters.{is_digit, is_nd, is_plus}
use Rattle.phone_chars.specs.Cuts.{after_front}
use Rattle.phone_parts.specs.Cores.{is_start}
use Rattle.phone_parts.specs.Texts.{begins, ends}
use Rattle.phone_parts.proofs.Cores.{IsFromFirst, from_first}
use Rattle.phone_parts.proofs.Ends.{all_wider, begins_wider, ends-append}
use Rattle.phone_parts.proofs.Longest.{all_parts}
use Rattle.phone_parts.proofs.PrintedCores.{IsUnmarked}
use Rattle.phone_parts.proofs.PrintedTexts.{digit_apart, digit_passes}
use Rattle.phone_library_text.specs.Viable
use Rattle.phone_library_text.specs.Written.{IsWritten, most_characters}
use Rattle.phone_library_text.proofs.NumbersIn.{no_context, no_subaddress}
use Rattle.phone_library_text.proofs.Outers.{ends_all}
use Rattle.phone_library_laws.specs.Announced.{IsAnnouncedIfAny}
use Rattle.phone_library_laws.specs.Layouts.{IsLaidOut, is_quiet}
use Rattle.phone_library_laws.specs.Plain.{IsPair}
use Rattle.phone_library_laws.proofs.CodedNumbers.{all_digits}
use Rattle.phone_library_laws.proofs.LaidOut.{digit_nd, is_parted, is_written, parted_viable}
use Rattle.phone_library_laws.proofs.LaidOut.{quiet_passes, written_no_extension}
use Rattle.phone_library_laws.proofs.Tails.{announced_tail, tail}
use Rattle.phone_library_laws.proofs.WrittenLaidOut.{IsBefore, IsNumber, IsPrinted, none_both}
use Rattle.phone_library_laws.proofs.WrittenLaidOut.{plain_written, printed_written}
use Rattle.phone_library_laws.proofs.WrittenLaidOut.{unmarked_behind}

-- no number begins at what is quiet
quiet_starts : (c : ℕ) → is_quiet c ≡ true → not (is_start c) ≡ true
unfolding ucd_category
quiet_starts = quiet_passes (λ c. not (is_start c)) refl

digit_starts : (c : ℕ) → is_digit c ≡ true → is_start c ≡ true
unfolding ucd_category
digit_starts = digit_passes is_start refl

no_plus : (c : ℕ) → is_digit c ≡ true → is_plus c ≡ false
no_plus = digit_apart is_plus refl

not_started : (t : List ℕ) → list_all is_parted t ≡ true → list_any is_digit t ≡ false →
    list_any is_start t ≡ false
not_started [] all none = refl
not_started (c ∷ cs) all none =
    let parts = and_parts (is_parted c) (list_all is_parted cs) all in
    let others = or_parts (is_digit c) (list_any is_digit cs) none in
    let quiet : is_quiet c ≡ true = rw others.0 at parts.0 in
    or_from _ _ (not-true (is_start c) (quiet_starts c quiet)) (not_started cs parts.1 others.1)

no_digits : (t : List ℕ) → list_any is_digit t ≡ false → filter is_digit t ≡ []
no_digits [] none = refl
no_digits (c ∷ cs) none =
    let parts = or_parts (is_digit c) (list_any is_digit cs) none in cond-false _ _ _ parts.0
    ∙ no_digits cs parts.1

written_wider : (t : List ℕ) → list_all is_parted t ≡ true → list_all is_written t ≡ true
written_wider t all = all_wider is_parted is_written (λ c h. or_right (is_plus c) (is_parted c) h) t
    all

begins_no_plus : (t : List ℕ) → begins is_digit t ≡ true → begins is_plus t ≡ false
begins_no_plus [] first = refl
begins_no_plus (c ∷ cs) first = no_plus c first

some_first : (p : ℕ → Bool) (t : List ℕ) → begins p t ≡ true → ¬ (t ≡ [])
some_first p t first e = true≢false (sym first ∙ ap (begins p) e)

-- digits laid out, cut before the first digit
module _ (q digits : List ℕ) (laid : IsLaidOut is_quiet q digits) (enough : 3 ≤ length digits) where
  abbrev pub cut : IsFromFirst is_digit q (after_front (λ c. not (is_digit c)) q)
  cut = from_first is_digit q

  abbrev pub number : List ℕ
  number = after_front (λ c. not (is_digit c)) q

  parts : (list_all is_parted cut.before ≡ true) × (list_all is_parted number ≡ true)
  parts = all_parts is_parted cut.before number (ap (list_all is_parted) (sym cut.whole)
      ∙ laid.only)

  pub number_digits : filter is_digit number ≡ digits
  number_digits =
      ap (λ t. t ++ filter is_digit number) (sym (no_digits cut.before cut.none))
      ∙ sym (filter-append is_digit cut.before number) ∙ ap (filter is_digit) (sym cut.whole)
      ∙ laid.same

  first_digit : begins is_digit number ≡ true
  first_digit = at cut.first
    where
      at : (number ≡ []) ⊎ (begins is_digit number ≡ true) → begins is_digit number ≡ true
      at (inl none) = absurd (omega (
        arith,
        enough,
        ap length (sym number_digits ∙ ap (filter is_digit) none),
      ))
      at (inr first) = first

  pub before_is : IsBefore cut.before
  before_is = record {
    no_start = not_started cut.before parts.0 cut.none;
    plain = plain_written cut.before (written_wider cut.before parts.0);
  }

  pub number_is : IsNumber number
  number_is = record {
    only = written_wider number parts.1;
    signed = parted_viable number parts.1 (subst (λ t. 3 ≤ length t) (sym number_digits) enough);
    starts = begins_wider is_digit is_start digit_starts number first_digit;
    last = sym (ends-append is_digit cut.before number (some_first is_digit number first_digit))
        ∙ ap (ends is_digit) (sym cut.whole) ∙ laid.last;
  }

  pub no_sign : begins is_plus number ≡ false
  no_sign = begins_no_plus number first_digit

-- the digits among laid-out text are digits
all_kept : (t : List ℕ) → list_all is_digit (filter is_digit t) ≡ true
all_kept [] = refl
all_kept (c ∷ cs) = at (is_digit c) refl (all_kept cs)
  where
    at : (b : Bool) → is_digit c ≡ b → list_all is_digit (filter is_digit cs) ≡ true →
        list_all is_digit (cond b (c ∷ filter is_digit cs) (filter is_digit cs)) ≡ true
    at true digit rest = and_from _ _ digit rest
    at false digit rest = rest

pub digits_alone : (between : ℕ → Bool) (q digits : List ℕ) → IsLaidOut between q digits →
    list_all is_digit digits ≡ true
digits_alone between q digits laid = ap (list_all is_digit) (sym laid.same) ∙ all_kept q

-- what is written in them, with an extension behind them
abbrev pub Told : List ℕ → List ℕ → Option (List ℕ) → Type 0
Told t digits e =
    IsWritten t (Ok (record { has_plus = false; digits = digits; extension = e }))

-- three digits and more
pub digits_written : (q digits w : List ℕ) (e : Option (List ℕ)) → IsLaidOut is_quiet q digits →
    3 ≤ length digits → IsAnnouncedIfAny w e →
    length (q ++ tail (chars w) e) ≤ most_characters → Told (q ++ tail (chars w) e) digits e
digits_written q digits w e laid enough announced few =
    let before = (from_first is_digit q).before in
    let rest = number q digits laid enough in
    let behind = tail (chars w) e in
    let whole : q ++ behind ≡ before ++ (rest ++ behind) =
    ap (λ t. t ++ behind) (from_first is_digit q).whole ∙ append_assoc before rest behind in
    let all = announced_tail before rest (before_is q digits laid enough)
    (number_is q digits laid enough) w e announced
    (subst (λ t. length t ≤ most_characters) whole few) in
    subst (λ t. Told t digits e) (sym whole)
    (subst (λ b. IsWritten (before ++ (rest ++ behind))
    (Ok (record { has_plus = b; digits = digits; extension = e }))) (no_sign q digits laid enough)
    (subst (λ d. IsWritten (before ++ (rest ++ behind))
    (Ok (record { has_plus = begins is_plus rest; digits = d; extension = e })))
    (number_digits q digits laid enough) all))

-- ---- two digits alone

first_of_two : (t : List ℕ) → length t ≡ 2 → list_all is_digit t ≡ true → begins is_digit t ≡ true
first_of_two [] two all = absurd (omega (arith, two))
first_of_two (c ∷ cs) two all = (and_parts (is_digit c) (list_all is_digit cs) all).0

none_if_few : (t : List ℕ) → length (filter is_digit t) ≡ 0 → list_any is_digit t ≡ false
none_if_few [] none = refl
none_if_few (c ∷ cs) none = at (is_digit c) refl (none_if_few cs) none
  where
    at : (b : Bool) → is_digit c ≡ b →
        (length (filter is_digit cs) ≡ 0 → list_any is_digit cs ≡ false) →
        length (cond b (c ∷ filter is_digit cs) (filter is_digit cs)) ≡ 0 →
        list_any is_digit (c ∷ cs) ≡ false
    at true digit rest few = absurd (omega (arith, few))
    at false digit rest few = or_from _ _ digit (rest few)

module _ (q digits : List ℕ) (e : Option (List ℕ)) (laid : IsLaidOut is_quiet q digits)
    (pair : IsPair q digits e) (few : length q ≤ most_characters) where
  alone : list_all is_digit digits ≡ true
  alone = digits_alone is_quiet q digits laid

  pair_parts : (list_all is_parted pair.before ≡ true) × (list_all is_parted digits ≡ true)
  pair_parts = all_parts is_parted pair.before digits (ap (list_all is_parted) (sym pair.whole)
      ∙ laid.only)

  -- what stands before the two has no digit
  counted : length (filter is_digit pair.before) + length digits ≡ length digits
  counted =
      sym (length-append (filter is_digit pair.before) digits)
      ∙ ap (λ t. length (filter is_digit pair.before ++ t)) (sym (all_digits digits alone))
      ∙ ap length (sym (filter-append is_digit pair.before digits))
      ∙ ap (λ t. length (filter is_digit t)) (sym pair.whole) ∙ ap length laid.same

  none_before : list_any is_digit pair.before ≡ false
  none_before = none_if_few pair.before (omega (arith, counted))

  pair_only : list_all is_written digits ≡ true
  pair_only = written_wider digits pair_parts.1

  pair_first : begins is_digit digits ≡ true
  pair_first = first_of_two digits pair.two alone

  pair_nd : list_all is_nd digits ≡ true
  pair_nd = all_wider is_digit is_nd digit_nd digits alone

  pair_some : ¬ (digits ≡ [])
  pair_some none = omega (arith, pair.two, ap length none)

  plain_before : list_any (λ c. c == 59) pair.before ≡ false
  plain_before = plain_written pair.before (written_wider pair.before pair_parts.0)

  plain_pair : list_any (λ c. c == 59) digits ≡ false
  plain_pair = plain_written digits pair_only

  pair_printed : IsPrinted pair.before digits digits None
  pair_printed = record {
    no_start = not_started pair.before pair_parts.0 none_before;
    starts = begins_wider is_digit is_start digit_starts digits pair_first;
    last = ends_all is_nd digits pair_some pair_nd;
    unmarked = subst IsUnmarked (append-nil digits) (unmarked_behind digits [] pair_only
        (ends_all is_digit digits pair_some alone) refl);
    no_context = no_context (pair.before ++ digits)
        (none_both (λ c. c == 59) pair.before digits plain_before plain_pair);
    no_subaddress = no_subaddress digits plain_pair;
    viable = inl (record { two = pair.two; digits = pair_nd });
    has_number = Viable.plain (written_no_extension digits pair_only);
    only = pair_only;
    few = subst (λ t. length t ≤ most_characters) pair.whole few;
  }

  pub pair_written : Told q digits None
  pair_written =
      subst (λ t. Told t digits None) (sym pair.whole)
      (subst (λ b. IsWritten (pair.before ++ digits)
      (Ok (record { has_plus = b; digits = digits; extension = None })))
      (begins_no_plus digits pair_first)
      (subst (λ d. IsWritten (pair.before ++ digits)
      (Ok (record { has_plus = begins is_plus digits; digits = d; extension = None })))
      (all_digits digits alone)
      (printed_written pair.before digits digits None pair_printed)))

-- digits that are enough
pub laid_written : (q digits w : List ℕ) (e : Option (List ℕ)) → IsLaidOut is_quiet q digits →
    (3 ≤ length digits) ⊎ IsPair q digits e → IsAnnouncedIfAny w e →
    length (q ++ tail (chars w) e) ≤ most_characters → Told (q ++ tail (chars w) e) digits e
laid_written q digits w e laid (inl enough) announced few =
    digits_written q digits w e laid enough announced few
laid_written q digits w None laid (inr pair) announced few =
    subst (λ t. Told t digits None) (sym (append-nil q))
    (pair_written q digits None laid pair
    (subst (λ t. length t ≤ most_characters) (append-nil q) few))
laid_written q digits w (Some e) laid (inr pair) announced few =
    let none : Some e ≡ None = pair.no_extension in cc

-- they are two at least
pub two_at_least : (q digits : List ℕ) (e : Option (List ℕ)) →
    (3 ≤ length digits) ⊎ IsPair q digits e → 2 ≤ length digits
two_at_least q digits e (inl enough) = omega (arith, enough)
two_at_least q digits e (inr pair) = omega (arith, pair.two)
