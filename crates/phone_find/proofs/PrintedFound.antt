-- A printed number between two spaces is found alone.
use Rattle.std.proofs.Common.{◌≡◌, inl, inr, ℕ, ◌<◌, ◌^◌, ◌≤◌, true, false}
use Rattle.std.proofs.Common.{Bool, true≢false, List, [], ◌∷◌, ◌++◌, codes, length, Option, None}
use Rattle.std.proofs.Common.{Some, option_map, IsUtf8, unwrap_or, append-nil, refl, ap, ap₂}
use Rattle.std.proofs.Common.{sym, subst, ◌∙◌, arith}
use Rattle.std.proofs.lemmas.Bool.{and_from, or_from, or_left}
use Rattle.std.proofs.lemmas.List.Folds.{list_any-append}
use Rattle.std.proofs.lemmas.Str.{IsUtf8-append, chars-append, chars-nil}
use Rattle.std.specs.Fmt.{decimal}
use Rattle.std.specs.List.{list_all, list_any}
use Rattle.std.specs.Option.{option_map_or, option_or}
use Rattle.std.specs.Str.{chars}
use Rattle.ucd_category.proofs.Computing.{ucd_category}
use Rattle.phone_chars.specs.Characters.{is_digit, is_plus, is_punctuation}
use Rattle.phone_values.specs.Numbers.{text_of}
use Rattle.phone_values.specs.declared.mode.Mode.TheVariants.{International}
use Rattle.phone_plans.specs.CodeLookUps.{first_of, territories}
use Rattle.phonenumber.specs.Bounds.{IsBounded}
use Rattle.phone_engine.specs.Possibilities.{possibility_under}
use Rattle.phone_engine.specs.declared.possibilities.Possibility.TheVariants.{UnknownCode}
use Rattle.phone_print.specs.Texts.{extension_part, international_text, laid_out, text_by}
use Rattle.phonenumber.specs.Printed.{printed}
use Rattle.phone_parts.proofs.AnnouncedParts.{announced_parts}
use Rattle.phone_parts.proofs.PrintedInternational.{all_printed, international_parts, is_printed}
use Rattle.phone_parts.specs.Texts.{begins, ends}
use Rattle.phone_records.specs.declared.loader.Metadata.{Metadata}
use Rattle.phone_values.specs.declared.reading.Reading.{Reading}
use Rattle.phone_read.specs.Regions.{home}
use Rattle.phone_read.specs.Kinds.{is_known, type_of}
use Rattle.phonenumber.proofs.BackLaws.{international_back, punctuated}
use Rattle.phonenumber.proofs.BackNumbers.{list_all-decimal, list_all-text_of}
use Rattle.phonenumber.proofs.BackPrefixes.{announced_safely}
use Rattle.phonenumber.proofs.BackTexts.{IsUtf8-low, chars-international_text, chars-low, is_low}
use Rattle.phonenumber.proofs.BackTexts.{low_digits}
use Rattle.phonenumber.proofs.BackViable.{all_from_left}
use Rattle.phonenumber.specs.RoundTrips.{IsReadAs, IsSame}
use Rattle.phonenumber.specs.Plain.{IsPlainInternational, has_digits}
use Rattle.phone_values.specs.declared.rules.Rules.TheVariants.{Crate}
use Rattle.phone_find.proofs.FoundAlone.{found_alone}
use Rattle.phone_find.proofs.Shapes.{ends_extended, ends_number, made_extended, made_number, shaped_from}
use Rattle.phone_find.specs.Alone.{EndsInDigits, IsAmong, IsNothingElse, IsPlainEnough, IsShaped}
use Rattle.phone_find.specs.Alone.{is_opening, placed}
use Rattle.phone_find.specs.Standing.{is_begin, is_candidate, is_piece}
use Rattle.phone_find.specs.Sets.{is_last}
use Rattle.phone_find.specs.Shapes.{has_few_digits, is_made}
use Rattle.phone_find.specs.Leniencies.{is_possible_count, suffices}
use Rattle.phone_find.specs.Numbers.{AreNumbers, IsNumberBetween}
use Rattle.phone_find.specs.declared.leniency.Leniency.{Leniency}
use Rattle.phone_find.specs.declared.leniency.Leniency.TheVariants.{Possible, Valid}
use Rattle.phone_find.specs.declared.search.Found.{Found}

-- no piece begins at a space, and none ends there
space_begins : is_opening 32 ≡ false
unfolding ucd_category
space_begins = refl

space_ends : is_last 32 ≡ false
unfolding ucd_category
space_ends = refl

space_utf8 : IsUtf8 (32 ∷ [])
space_utf8 = IsUtf8-low (32 ∷ []) refl

space_chars : chars (32 ∷ []) ≡ 32 ∷ []
space_chars = chars-low (32 ∷ []) refl

spaced_before : (t : List ℕ) → IsUtf8 t → chars (t ++ 32 ∷ []) ≡ chars t ++ 32 ∷ []
spaced_before t u = chars-append t (32 ∷ []) u ∙ ap (λ s. chars t ++ s) space_chars

spaced_after : (t : List ℕ) → chars (32 ∷ t) ≡ 32 ∷ chars t
spaced_after t = chars-append (32 ∷ []) t space_utf8 ∙ ap (λ s. s ++ chars t) space_chars

-- between two spaces as between the texts around them
pub among_spaces : (before piece after : List ℕ) → IsAmong before piece after →
    IsAmong (before ++ 32 ∷ []) piece (32 ∷ after)
among_spaces before piece after h = record {
  before_utf8 = IsUtf8-append before (32 ∷ []) h.before_utf8 space_utf8;
  piece_utf8 = h.piece_utf8;
  after_utf8 = IsUtf8-append (32 ∷ []) after space_utf8 h.after_utf8;
  no_opening =
      ap (list_any is_opening) (spaced_before before h.before_utf8)
      ∙ list_any-append is_opening (chars before) (32 ∷ [])
      ∙ or_from _ _ h.no_opening (or_from _ _ space_begins refl);
  no_last = ap (list_any is_last) (spaced_after after) ∙ or_from _ _ space_ends h.no_last;
}

-- a text between two spaces may be a number where it begins with a plus sign, and may be one by its
-- characters and what follows
pub spaced_candidate : (before text after : List ℕ) → begins is_plus (chars text) ≡ true → is_piece (chars text) (32 ∷ chars after) ≡ true →
    is_candidate (chars (before ++ 32 ∷ [])) (chars text) (chars (32 ∷ after)) ≡ true
spaced_candidate before text after plus piece =
    let from = chars text ++ chars (32 ∷ after) in
    and_from (is_begin (chars (before ++ 32 ∷ [])) from) (is_piece (chars text) (chars (32 ∷ after)))
    (or_left (begins is_plus from) _ (begins-append is_plus (chars text) (chars (32 ∷ after)) plus))
    (ap (is_piece (chars text)) (spaced_after after) ∙ piece)
  where
    begins-append : (p : ℕ → Bool) (xs ys : List ℕ) → begins p xs ≡ true → begins p (xs ++ ys) ≡ true
    begins-append p [] ys e = absurd (true≢false (sym e))
    begins-append p (x ∷ xs) ys e = e

some_length : (t : List ℕ) → ¬ (t ≡ []) → 1 ≤ length t
some_length [] some = absurd (some refl)
some_length (c ∷ cs) some = omega arith

-- what is printed
module _ (db : List Metadata) (n : Reading) (text : List ℕ) (m : Metadata) (listed : first_of
    (territories n.code.value db) ≡ Some m)
    (is : printed db International None n ≡ Some text) where
  is_text : international_text m None n ≡ text
  is_text = let same : Some (international_text m None n) ≡ Some text =
      sym (ap (option_map (λ m. text_by m International None n)) listed) ∙ is in cc

  plus_first : begins is_plus (chars text) ≡ true
  plus_first =
      ap (λ t. begins is_plus (chars t)) (sym is_text)
      ∙ ap (begins is_plus) (chars-append (43 ∷ []) (decimal n.code.value ++ 32 ∷ (laid_out m
      International None n ++ extension_part m n.extension)) (IsUtf8-low (43 ∷ []) refl)
      ∙ ap (λ s. s ++ chars (decimal n.code.value ++ 32 ∷ (laid_out m International None n ++
      extension_part m n.extension))) (chars-low (43 ∷ []) refl))

-- whether a number suffices is of its code and national number alone
suffices_same : (db : List Metadata) (l : Leniency) (n m : Reading) → m.code.value ≡ n.code.value →
    m.national ≡ n.national →
    suffices Crate db l m ≡ suffices Crate db l n
suffices_same db Possible n m code national =
    ap₂ (λ c d. is_possible_count (option_map_or (λ (t : Metadata). possibility_under t (length
    (text_of d)))
    (option_or (home db c (text_of d)) (first_of (territories c db))) UnknownCode)) code national
suffices_same db Valid n m code national =
    ap₂ (λ c d. option_map_or (λ (t : Metadata). is_known (type_of t (text_of d))) (home db c
    (text_of d)) false) code national

module _ (db : List Metadata) (l : Leniency) (n : Reading) (before text after : List ℕ) (all : List
    (Found Reading)) (bounded : IsBounded n)
    (plain : IsPlainEnough db l n) (is : printed db International None n ≡ Some text) (shaped :
    IsShaped text after) (among : IsAmong before text after) where
  back : IsReadAs db (chars text) n n.extension
  back =
      international_back international_parts announced_parts db n text bounded among.piece_utf8
      plain.plain plain.some_code plain.few_digits
      plain.prefix_free (announced_safely plain.plain.territory n plain.announced) is plain.idle

  candidate : is_candidate (chars (before ++ 32 ∷ [])) (chars text) (chars (32 ∷ after)) ≡ true
  candidate =
      spaced_candidate before text after
      (plus_first db n text plain.plain.territory plain.plain.plain.listed is) shaped.piece

  number : IsNumberBetween Crate db None l (before ++ 32 ∷ []) text (32 ∷ after) back.0
  number = record {
    candidate = candidate;
    number = record {
      read = back.1;
      enough = and_from (suffices Crate db l back.0) true (suffices_same db l n back.0 back.2.code back.2.national ∙ plain.enough) refl;
    };
  }

  pub printed_found : AreNumbers Crate db None l ((before ++ 32 ∷ []) ++ (text ++ 32 ∷ after)) all →
      (m : Reading) × IsSame n n.extension m × (all ≡ placed (before ++ 32 ∷ []) text m ∷ [])
  printed_found found = (
    back.0,
    back.2,
    found_alone Crate db None l (before ++ 32 ∷ []) text (32 ∷ after) back.0 (among_spaces before text
        after among) shaped.short number all found,
  )

module _ (db : List Metadata) (n : Reading) (text : List ℕ) (bounded : IsBounded n) (utf8 : IsUtf8
    text) (p : IsPlainInternational db n)
    (ended : EndsInDigits p.territory n) (is : printed db International None n ≡ Some text) (short :
    length text ≤ 250) (few : has_few_digits (chars text) ≡ true) (after : List ℕ) (free : IsNothingElse (chars text)
    (32 ∷ chars after)) where
  abbrev m : Metadata
  m = p.territory

  abbrev cd : List ℕ
  cd = decimal n.code.value

  abbrev q : List ℕ
  q = chars (laid_out m International None n)

  fits : n.code.value < 2 ^ 64
  fits = omega (arith, bounded.code)

  code : list_all is_digit cd ≡ true
  code = list_all-decimal n.code.value fits

  laid_printed : list_all is_printed q ≡ true
  laid_printed =
      all_printed q (all_from_left is_punctuation punctuated q
      (ap (list_all is_digit) p.only_parted ∙ list_all-text_of n.national bounded.national))
      p.no_indicator

  same : international_text m None n ≡ text
  same = is_text db n text m p.plain.listed is

  read : IsUtf8 (extension_part m n.extension) → chars text ≡ 43 ∷ (cd ++ 32 ∷ (q ++ chars
      (extension_part m n.extension)))
  read u = ap chars (sym same) ∙ chars-international_text n fits m u (subst IsUtf8 (sym same) utf8)

  shaped_as : (t : List ℕ) → chars text ≡ t → is_made t ≡ true → ends is_last t ≡ true → IsShaped text after
  shaped_as t e made last = shaped_from text after short few (ap is_made e ∙ made) (ap (ends is_last) e ∙ last) free

  alone : n.extension ≡ None → IsShaped text after
  alone none =
      let part : extension_part m n.extension ≡ [] = ap (extension_part m) none in
      let whole = read (subst IsUtf8 (sym part) (IsUtf8-low [] refl))
      ∙ ap (λ t. 43 ∷ (cd ++ 32 ∷ (q ++ chars t))) part
      ∙ ap (λ t. 43 ∷ (cd ++ 32 ∷ (q ++ t))) chars-nil ∙ ap (λ t. 43 ∷ (cd ++ 32 ∷ t))
      (append-nil q) in
      shaped_as (43 ∷ (cd ++ 32 ∷ q)) whole (made_number cd q code laid_printed ended.laid)
      (ends_number cd q code laid_printed ended.laid)

  extended : m.preferred_extension_prefix ≡ None → (e : List ℕ) → n.extension ≡ Some e →
      ¬ (e ≡ []) → IsShaped text after
  extended none e is_e some =
      let digits : list_all is_digit e ≡ true = subst (λ x. has_digits x ≡ true) is_e p.extension in
      let low : list_all is_low (codes " ext. " ++ e) ≡ true = low_digits e digits in
      let part : extension_part m n.extension ≡ codes " ext. " ++ e =
      ap (extension_part m) is_e ∙ ap (λ o. unwrap_or o (codes " ext. ") ++ e) none in
      let whole = read (subst IsUtf8 (sym part) (IsUtf8-low (codes " ext. " ++ e) low))
      ∙ ap (λ t. 43 ∷ (cd ++ 32 ∷ (q ++ chars t))) part
      ∙ ap (λ t. 43 ∷ (cd ++ 32 ∷ (q ++ t))) (chars-low (codes " ext. " ++ e) low) in
      let one = some_length e some in
      shaped_as (43 ∷ (cd ++ 32 ∷ (q ++ (codes " ext. " ++ e)))) whole
      (made_extended cd q code laid_printed ended.laid e digits one) (ends_extended cd q code
      laid_printed ended.laid e digits one)

  of_extension : (x : Option (List ℕ)) → n.extension ≡ x → m.preferred_extension_prefix ≡ None →
      ¬ (n.extension ≡ Some []) → IsShaped text after
  of_extension None e none some = alone e
  of_extension (Some d) e none some = extended none d e (λ empty. some (e ∙ ap Some empty))

  pub plain_shaped : IsShaped text after
  plain_shaped = elim ended.extension [
    | inl none ↦ alone none
    | inr h ↦ of_extension n.extension refl h.0 h.1
  ]
