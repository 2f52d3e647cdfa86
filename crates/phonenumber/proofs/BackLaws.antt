-- Printed numbers are read back, by what the readers find in the printed texts.
use Rattle.std.proofs.Common.{◌≡◌, ◌⊎◌, inl, inr, ℕ, ◌<◌, ◌≤◌, ◌^◌, ◌==◌, ◌||◌, not, Bool, true, false, List, [], ◌∷◌, ◌++◌, codes, length, filter, Option, None, Some, IfSome, IsUtf8, option_map, unwrap_or, Ok, if◌then◌else◌, refl, ap, ap₂, sym, subst, ◌∙◌, append-nil, arith, length-append}
use Rattle.std.proofs.lemmas.Bool.{and_from, and_parts, not-true, not_from_false, or_cases, or_left, or_parts, or_right}
use Rattle.std.proofs.lemmas.Fmt.{decimal_nonempty}
use Rattle.std.proofs.lemmas.List.Elements.{filter_map-append}
use Rattle.std.proofs.lemmas.List.Folds.{list_all-append}
use Rattle.std.proofs.lemmas.Str.{IsUtf8-append, chars-append}
use Rattle.std.specs.Fmt.{decimal}
use Rattle.std.specs.List.{list_all, list_any}
use Rattle.std.specs.Option.{option_map_or}
use Rattle.std.specs.Str.{chars}
use Rattle.phone_chars.proofs.Norms.{norm_digits}
use Rattle.phone_chars.proofs.Signed.{after_front-append}
use Rattle.phone_chars.specs.Characters.{digit_of, is_digit, is_one_of, is_plus, is_punctuation, is_separator}
use Rattle.phone_chars.specs.Cuts.{after_front}
use Rattle.phone_chars.specs.Norm.{norm}
use Rattle.phone_values.specs.Nsn.{nsn}
use Rattle.phone_values.specs.Numbers.{IsHeld, text_of}
use Rattle.phone_values.specs.declared.country.Source.TheVariants.{Plus}
use Rattle.phone_values.specs.declared.mode.Mode.{Mode}
use Rattle.phone_values.specs.declared.mode.Mode.TheVariants.{E164, International, Rfc3966}
use Rattle.phone_plans.specs.CodeLookUps.{first_of, is_listed, is_prefix_free, territories}
use Rattle.phone_records.specs.declared.loader.Metadata.{Metadata}
use Rattle.phone_parts.proofs.Ends.{all_wider}
use Rattle.phone_parts.specs.Announcements.{IsAnnouncement}
use Rattle.phone_parts.specs.Readers.{HasParts}
use Rattle.phone_parts.specs.Texts.{ends}
use Rattle.phone_read.proofs.ListedFronts.{listed_some}
use Rattle.phone_read.specs.TransformRules.{rules_have_no_plus}
use Rattle.phone_values.specs.declared.reading.Reading.{Reading}
use Rattle.phonenumber.specs.RoundTrips.{IsReadAs}
use Rattle.phonenumber.specs.Bounds.{IsBounded}
use Rattle.phonenumber.specs.Plain.{IsAnnouncedByWord, IsLeftAlone, IsPlain, IsPlainE164, IsPlainInternational, IsPlainRfc3966, has_digits}
use Rattle.phone_print.specs.Texts.{e164_text, extension_part, hyphenated, laid_out, text_by}
use Rattle.phonenumber.specs.Printed.{printed}
use Rattle.phonenumber.proofs.BackNumbers.{list_all-decimal, list_all-text_of, nsn-text_of}
use Rattle.phonenumber.proofs.ThinTexts.{digit_passes}
use Rattle.phonenumber.proofs.BackReads.{IsFoundAs, code_of-prefix, code_of-signed, idle_as, read_as}
use Rattle.phonenumber.proofs.BackTexts.{IsUtf8-low, all_dialled, announced, chars-low, chars-e164_text, chars-international_text, chars-rfc3966_text, hyphenated-digits, is_dialled, is_low, low_announced, low_digits, parted_dialled}
use Rattle.phonenumber.proofs.BackViable.{all_allowed, all_from_left, digits_left, indicating, is_parted, no_digits, norm-parted, parted_digit, viable-parted}

-- what the readers find in a plus sign and digits
abbrev pub FindsSigned : Type 0
FindsSigned = (d : List ℕ) → list_all is_digit d ≡ true → 1 ≤ length d →
    HasParts (43 ∷ d) (Some (record { national = 43 ∷ d; prefix = None; extension = None }))

-- in the form of RFC 3966
abbrev pub FindsTel : Type 0
FindsTel = (cd h : List ℕ) (e : Option (List ℕ)) → list_all is_digit cd ≡ true → 1 ≤ length cd → list_all is_dialled h ≡ true →
    IfSome e (λ d. list_all is_digit d ≡ true) →
    HasParts (codes "tel:+" ++ (cd ++ 45 ∷ (h ++ announced (codes ";ext=") e))) (Some (record { national = 45 ∷ h; prefix = Some cd; extension = e }))

-- in an international text, before what announces the extension: all but some punctuation at the
-- end of the number
abbrev pub IsFoundBefore : List ℕ → List ℕ → List ℕ → Option (List ℕ) → Type 0
IsFoundBefore cd q behind e =
    (kept : List ℕ) × (rest : List ℕ) × (q ≡ kept ++ rest) × (list_all is_punctuation rest ≡ true)
    × HasParts (43 ∷ (cd ++ 32 ∷ (q ++ behind)))
    (Some (record { national = 43 ∷ (cd ++ 32 ∷ kept); prefix = None; extension = e }))

-- before ` ext. `
abbrev pub FindsInternational : Type 0
FindsInternational = (cd q : List ℕ) (e : Option (List ℕ)) → list_all is_digit cd ≡ true → list_all (λ c. is_digit c || is_punctuation c) q ≡ true →
    list_any (is_one_of indicating) q ≡ false → list_any is_digit q ≡ true → has_digits e ≡ true → option_map_or length e 0 ≤ 7 →
    IsFoundBefore cd q (announced (codes " ext. ") e) e

-- before any announcement by a word, where a digit stands there: the whole number
abbrev pub FindsAnnounced : Type 0
FindsAnnounced = (cd q a e : List ℕ) → list_all is_digit cd ≡ true →
    list_all (λ c. is_digit c || is_punctuation c) q ≡ true →
    list_any (is_one_of indicating) q ≡ false → ends is_digit q ≡ true → IsAnnouncement a →
    list_all is_digit e ≡ true → length e ≤ 7 →
    HasParts (43 ∷ (cd ++ 32 ∷ (q ++ (a ++ e))))
    (Some (record { national = 43 ∷ (cd ++ 32 ∷ q); prefix = None; extension = Some e }))

all_if_some : (e : Option (List ℕ)) → has_digits e ≡ true → IfSome e (λ d. list_all is_digit d ≡ true)
all_if_some None h = tt
all_if_some (Some e) h = h

any_of_left : (p : ℕ → Bool) (t : List ℕ) → 1 ≤ length (filter p t) → list_any p t ≡ true
any_of_left p [] some = absurd (omega (arith, some))
any_of_left p (c ∷ cs) some = at (p c) some (any_of_left p cs)
  where
    at : (b : Bool) → 1 ≤ length (if b then c ∷ filter p cs else filter p cs) → (1 ≤ length (filter p cs) → list_any p cs ≡ true) → (b || list_any p cs) ≡ true
    at true some more = refl
    at false some more = more some

norm_extension : (e : Option (List ℕ)) → has_digits e ≡ true → option_map norm e ≡ e
norm_extension None h = refl
norm_extension (Some e) h = ap Some (norm_digits e h)

no_sign : (t : List ℕ) → list_all is_parted t ≡ true → after_front is_plus t ≡ t
no_sign t parted = after_front-append [] t refl (all_allowed t parted)

pub parted_digits : (t : List ℕ) → list_all is_digit t ≡ true → list_all is_parted t ≡ true
parted_digits t h = all_wider is_digit is_parted parted_digit t h

pub between_digits : (c : ℕ) → is_digit c ≡ true → is_separator c ≡ false
between_digits c digit = not-true (is_separator c) (digit_passes (λ x. not (is_separator x)) refl c digit)

pub punctuated : (c : ℕ) → is_digit c ≡ true → is_punctuation c ≡ false
punctuated c digit = (or_parts (is_punctuation c) (c == 0xFF0E) (between_digits c digit)).0

-- with punctuation that announces nothing alone, what is between digits is quiet
pub quiet_between : (t : List ℕ) → list_all (λ c. is_digit c || is_punctuation c) t ≡ true → list_any (is_one_of indicating) t ≡ false → list_all is_parted t ≡ true
quiet_between [] h none = refl
quiet_between (c ∷ cs) h none =
    let both = and_parts (is_digit c || is_punctuation c) (list_all (λ c. is_digit c || is_punctuation c) cs) h in
    let parts = or_parts (is_one_of indicating c) (list_any (is_one_of indicating) cs) none in
    let here : is_parted c ≡ true = elim (or_cases (is_digit c) (is_punctuation c) both.0) [
      | inl digit ↦ or_left _ _ digit
      | inr there ↦ or_right _ _ (and_from _ _ there (not_from_false (is_one_of indicating c) parts.0))
    ] in
    and_from _ _ here (quiet_between cs both.1 parts.1)

-- the digits of a plain number are read as its national number
plain_number : (db : List Metadata) (n : Reading) (least : ℕ) (m : Metadata) → IsHeld n.national → IsPlain db n least m → 2 ≤ least → nsn (text_of n.national) ≡ Ok n.national
plain_number db n least m held plain two = nsn-text_of n.national held plain.not_zero (omega (arith, two, plain.long_enough)) plain.short_enough

module _ (db : List Metadata) (n : Reading) (least : ℕ) (m : Metadata) (held : IsHeld n.national) (plain : IsPlain db n least m) where
  abbrev code : ℕ
  code = n.code.value

  abbrev digits : List ℕ
  digits = text_of n.national

  listed : is_listed code db ≡ true
  listed = listed_some code db m (sym plain.listed)

  all : list_all is_digit digits ≡ true
  all = list_all-text_of n.national held

  -- a text with such a national part after a plus sign
  signed_found : (t s : List ℕ) (e : Option (List ℕ)) → HasParts t (Some (record { national = 43 ∷ s; prefix = None; extension = e })) →
      list_all is_parted s ≡ true → norm s ≡ decimal code ++ digits → 2 ≤ length digits → 1 ≤ code → code ≤ 999 → is_prefix_free db ≡ true →
      IsFoundAs db t n (option_map norm e)
  signed_found t s e parts parted normal two some few free =
      let fits : code < 2 ^ 64 = omega (arith, few) in
      let three : 3 ≤ length (norm s) = omega (arith, ap length normal, length-append (decimal code) digits, decimal_nonempty code fits, two) in
      record {
        parts = record { national = 43 ∷ s; prefix = None; extension = e };
        source = Plus;
        found = parts;
        viable = viable-parted (43 ∷ []) s refl parted three;
        coded = code_of-signed db code digits listed s free some few two (no_sign s parted) normal;
        same_extension = refl;
      }

  module _ (some : 1 ≤ code) (few : code ≤ 999) (free : is_prefix_free db ≡ true) (two : 2 ≤ length digits) where
    fits : code < 2 ^ 64
    fits = omega (arith, few)

    code_digits : list_all is_digit (decimal code) ≡ true
    code_digits = list_all-decimal code fits

    pub e164_parted : FindsSigned → IsFoundAs db (chars (e164_text n)) n None
    e164_parted finds =
        let s = decimal code ++ digits in
        let s_digits : list_all is_digit s ≡ true = list_all-append is_digit (decimal code) digits ∙ and_from _ _ code_digits all in
        let one : 1 ≤ length s = omega (arith, length-append (decimal code) digits, decimal_nonempty code fits) in
        subst (λ t. IsFoundAs db t n None) (sym (chars-e164_text n fits held))
        (signed_found (43 ∷ s) s None (finds s s_digits one) (parted_digits s s_digits) (norm_digits s s_digits) two some few free)

    pub international_parted : (q behind : List ℕ) → has_digits n.extension ≡ true →
        list_all (λ c. is_digit c || is_punctuation c) q ≡ true →
        list_any (is_one_of indicating) q ≡ false → filter is_digit q ≡ digits →
        IsFoundBefore (decimal code) q behind n.extension →
        IsFoundAs db (43 ∷ (decimal code ++ 32 ∷ (q ++ behind))) n n.extension
    international_parted q behind extension only quiet left (kept, rest, whole, only_rest, parts) =
        let e = n.extension in
        let cd = decimal code in
        let parted : list_all is_parted q ≡ true = quiet_between q only quiet in
        let both = and_parts (list_all is_parted kept) (list_all is_parted rest) (sym (list_all-append is_parted kept rest) ∙ sym (ap (list_all is_parted) whole) ∙ parted) in
        let s = cd ++ 32 ∷ kept in
        let s_parted : list_all is_parted s ≡ true = list_all-append is_parted cd (32 ∷ kept) ∙ and_from _ _ (parted_digits cd code_digits) both.0 in
        let nothing : norm rest ≡ [] = norm-parted rest both.1 ∙ no_digits is_punctuation punctuated rest only_rest in
        let of_kept : norm kept ≡ digits =
        sym (append-nil (norm kept)) ∙ ap (λ t. norm kept ++ t) (sym nothing) ∙ sym (filter_map-append digit_of kept rest)
        ∙ sym (ap norm whole) ∙ norm-parted q parted ∙ left in
        let normal : norm s ≡ cd ++ digits =
        filter_map-append digit_of cd (32 ∷ kept) ∙ ap₂ (λ a b. a ++ b) (norm_digits cd code_digits) of_kept in
        let t = 43 ∷ (cd ++ 32 ∷ (q ++ behind)) in
        subst (IsFoundAs db t n) (norm_extension e extension) (signed_found t s e parts s_parted normal two some few free)

  pub rfc3966_parted : FindsTel → code < 2 ^ 16 → 3 ≤ length digits → has_digits n.extension ≡ true →
      (h : List ℕ) → list_all is_dialled h ≡ true → filter is_digit h ≡ digits →
      IsFoundAs db (codes "tel:+" ++ (decimal code ++ 45 ∷ (h ++ announced (codes ";ext=") n.extension))) n n.extension
  rfc3966_parted finds below three extension h dialled left =
      let e = n.extension in
      let fits : code < 2 ^ 64 = omega (arith, below) in
      let parted : list_all is_parted (45 ∷ h) ≡ true = all_wider is_dialled is_parted parted_dialled (45 ∷ h) dialled in
      let normal : norm (45 ∷ h) ≡ digits = norm-parted (45 ∷ h) parted ∙ left in
      record {
        parts = record { national = 45 ∷ h; prefix = Some (decimal code); extension = e };
        source = Plus;
        found = finds (decimal code) h e (list_all-decimal code fits) (decimal_nonempty code fits) dialled (all_if_some e extension);
        viable = viable-parted [] (45 ∷ h) refl parted (omega (arith, ap length normal, three));
        coded = code_of-prefix db code digits listed (45 ∷ h) below three normal;
        same_extension = norm_extension e extension;
      }

-- the text that is printed is the text of the mode by the first territory
printed_text : (db : List Metadata) (mode : Mode) (n : Reading) (m : Metadata) (text : List ℕ) → first_of (territories n.code.value db) ≡ Some m →
    printed db mode None n ≡ Some text → text_by m mode None n ≡ text
printed_text db mode n m text listed e =
    let same : Some (text_by m mode None n) ≡ Some text = sym (ap (option_map (λ m. text_by m mode None n)) listed) ∙ e in cc

-- the E.164 text of a plain number
e164_found : FindsSigned → (db : List Metadata) (n : Reading) (text : List ℕ) → IsBounded n → IsPlainE164 db n →
    1 ≤ n.code.value → n.code.value ≤ 999 → is_prefix_free db ≡ true → printed db E164 None n ≡ Some text → IsFoundAs db (chars text) n None
e164_found finds db n text bounded (m, plain) some few free e =
    subst (λ t. IsFoundAs db (chars t) n None) (printed_text db E164 n m text plain.listed e)
    (e164_parted db n 2 m bounded.national plain some few free plain.long_enough finds)

-- the text of RFC 3966
rfc3966_found : FindsTel → (db : List Metadata) (n : Reading) (text : List ℕ) → IsBounded n → IsPlainRfc3966 db n →
    printed db Rfc3966 None n ≡ Some text → IsFoundAs db (chars text) n n.extension
rfc3966_found finds db n text bounded p e =
    let q = chars (laid_out p.territory International None n) in
    let all = list_all-text_of n.national bounded.national in
    let only : list_all (λ c. is_digit c || is_separator c) q ≡ true = all_from_left is_separator between_digits q (ap (list_all is_digit) p.only_parted ∙ all) in
    let dialled : list_all is_dialled (hyphenated q) ≡ true = all_dialled between_digits q only in
    let left : filter is_digit (hyphenated q) ≡ text_of n.national = hyphenated-digits between_digits q only ∙ digits_left is_separator between_digits q only ∙ p.only_parted in
    let fits : n.code.value < 2 ^ 64 = omega (arith, bounded.code) in
    let whole = ap chars (sym (printed_text db Rfc3966 n p.territory text p.plain.listed e)) ∙ chars-rfc3966_text n fits p.territory p.extension dialled in
    subst (λ t. IsFoundAs db t n n.extension) (sym whole)
    (rfc3966_parted db n 3 p.territory bounded.national p.plain finds bounded.code p.plain.long_enough p.extension (hyphenated q) dialled left)

-- an extension is announced by ` ext. ` where the territory prefers nothing else
by_default : (m : Metadata) (e : Option (List ℕ)) → (e ≡ None) ⊎ (m.preferred_extension_prefix ≡ None) → extension_part m e ≡ announced (codes " ext. ") e
by_default m None h = refl
by_default m (Some e) (inl none) = cc
by_default m (Some e) (inr none) = rw none

-- what announces an extension is UTF-8, and known as characters
record IsTold (m : Metadata) (e : Option (List ℕ)) (told : List ℕ) : Type 0 where
  pub utf8 : IsUtf8 (extension_part m e)
  pub characters : chars (extension_part m e) ≡ told

told_by_default : (m : Metadata) (e : Option (List ℕ)) → has_digits e ≡ true →
    (e ≡ None) ⊎ (m.preferred_extension_prefix ≡ None) →
    IsTold m e (announced (codes " ext. ") e)
told_by_default m e digits default =
    let told = announced (codes " ext. ") e in
    let low : list_all is_low told ≡ true = low_announced (codes " ext. ") e refl digits in
    let part : extension_part m e ≡ told = by_default m e default in
    record {
      utf8 = subst IsUtf8 (sym part) (IsUtf8-low told low);
      characters = ap chars part ∙ chars-low told low;
    }

told_by_prefix : (m : Metadata) (e : Option (List ℕ)) (p : List ℕ) → has_digits e ≡ true →
    m.preferred_extension_prefix ≡ Some p → IsUtf8 p →
    IsTold m e (announced (chars p) e)
told_by_prefix m None p digits preferred utf8 =
    record { utf8 = IsUtf8-low [] refl; characters = chars-low [] refl }
told_by_prefix m (Some e) p digits preferred utf8 =
    let low : list_all is_low e ≡ true = low_digits e digits in
    let part : extension_part m (Some e) ≡ p ++ e =
    ap (λ o. unwrap_or o (codes " ext. ") ++ e) preferred in
    record {
      utf8 = subst IsUtf8 (sym part) (IsUtf8-append p e utf8 (IsUtf8-low e low));
      characters = ap chars part ∙ chars-append p e utf8 ∙ ap (λ t. chars p ++ t) (chars-low e low);
    }

-- an extension is announced by ` ext. `, or by a word behind a digit
abbrev pub IsAnnounced : Metadata → Reading → Type 0
IsAnnounced m n =
    ((n.extension ≡ None) ⊎ (m.preferred_extension_prefix ≡ None)) ⊎ IsAnnouncedByWord m n

module _ (finds : FindsInternational) (finds_announced : FindsAnnounced) where
  -- behind a number that ends in a digit, by a word
  found_before_word : (cd q a : List ℕ) (e : Option (List ℕ)) → list_all is_digit cd ≡ true →
      list_all (λ c. is_digit c || is_punctuation c) q ≡ true →
      list_any (is_one_of indicating) q ≡ false → list_any is_digit q ≡ true →
      ends is_digit q ≡ true → IsAnnouncement a → has_digits e ≡ true →
      option_map_or length e 0 ≤ 7 → IsFoundBefore cd q (announced a e) e
  found_before_word cd q a None code only quiet some last by_word digits few =
      finds cd q None code only quiet some digits few
  found_before_word cd q a (Some e) code only quiet some last by_word digits few = (
    q,
    [],
    sym (append-nil q),
    refl,
    finds_announced cd q a e code only quiet last by_word digits few,
  )

  -- the international text
  international_found : (db : List Metadata) (n : Reading) (text : List ℕ) → IsBounded n →
      IsUtf8 text → (p : IsPlainInternational db n) →
      1 ≤ n.code.value → n.code.value ≤ 999 → is_prefix_free db ≡ true → IsAnnounced p.territory n →
      printed db International None n ≡ Some text →
      IsFoundAs db (chars text) n n.extension
  international_found db n text bounded utf8 p some few free announcing e = at announcing
    where
      q : List ℕ
      q = chars (laid_out p.territory International None n)

      fits : n.code.value < 2 ^ 64
      fits = omega (arith, few)

      code : list_all is_digit (decimal n.code.value) ≡ true
      code = list_all-decimal n.code.value fits

      only : list_all (λ c. is_digit c || is_punctuation c) q ≡ true
      only = all_from_left is_punctuation punctuated q
          (ap (list_all is_digit) p.only_parted ∙ list_all-text_of n.national bounded.national)

      left : filter is_digit q ≡ text_of n.national
      left = digits_left is_punctuation punctuated q only ∙ p.only_parted

      some_digit : list_any is_digit q ≡ true
      some_digit = any_of_left is_digit q (omega (arith, ap length left, p.plain.long_enough))

      -- with what announces the extension
      with : (told : List ℕ) → IsTold p.territory n.extension told →
          IsFoundBefore (decimal n.code.value) q told n.extension →
          IsFoundAs db (chars text) n n.extension
      with told part parts =
          let same = sym (printed_text db International n p.territory text p.plain.listed e) in
          let whole =
          ap chars same ∙ chars-international_text n fits p.territory part.utf8 (subst IsUtf8 same utf8)
          ∙ ap (λ t. 43 ∷ (decimal n.code.value ++ 32 ∷ (q ++ t))) part.characters in
          subst (λ t. IsFoundAs db t n n.extension) (sym whole)
          (international_parted db n 2 p.territory bounded.national p.plain some few free
          p.plain.long_enough q told p.extension only p.no_indicator left parts)

      at : IsAnnounced p.territory n → IsFoundAs db (chars text) n n.extension
      at (inl default) =
          with (announced (codes " ext. ") n.extension)
          (told_by_default p.territory n.extension p.extension default)
          (finds (decimal n.code.value) q n.extension code only p.no_indicator some_digit
          p.extension p.few_digits)
      at (inr h) =
          with (announced (chars h.prefix) n.extension)
          (told_by_prefix p.territory n.extension h.prefix p.extension h.preferred h.utf8)
          (found_before_word (decimal n.code.value) q (chars h.prefix) n.extension code only
          p.no_indicator some_digit h.after_digit h.by_word p.extension p.few_digits)

module _ (finds : FindsSigned) (db : List Metadata) (n : Reading) (text : List ℕ) (bounded : IsBounded n) (p : IsPlainE164 db n)
    (some : 1 ≤ n.code.value) (few : n.code.value ≤ 999) (free : is_prefix_free db ≡ true) (e : printed db E164 None n ≡ Some text) where
  pub e164_back : IsLeftAlone db n.code.value (text_of n.national) → IsReadAs db (chars text) n None
  e164_back = read_as db (chars text) n None (e164_found finds db n text bounded p some few free e) (plain_number db n 2 p.0 bounded.national p.1 (omega arith))

  pub e164_idle : rules_have_no_plus db ≡ true → IsReadAs db (chars text) n None → IsLeftAlone db n.code.value (text_of n.national)
  e164_idle = idle_as db (chars text) n None (e164_found finds db n text bounded p some few free e)

module _ (finds : FindsTel) (db : List Metadata) (n : Reading) (text : List ℕ) (bounded : IsBounded n) (p : IsPlainRfc3966 db n) (e : printed db Rfc3966 None n ≡ Some text) where
  pub rfc3966_back : IsLeftAlone db n.code.value (text_of n.national) → IsReadAs db (chars text) n n.extension
  rfc3966_back = read_as db (chars text) n n.extension (rfc3966_found finds db n text bounded p e) (plain_number db n 3 p.territory bounded.national p.plain (omega arith))

  pub rfc3966_idle : rules_have_no_plus db ≡ true → IsReadAs db (chars text) n n.extension → IsLeftAlone db n.code.value (text_of n.national)
  rfc3966_idle = idle_as db (chars text) n n.extension (rfc3966_found finds db n text bounded p e)

module _ (finds : FindsInternational) (finds_announced : FindsAnnounced) (db : List Metadata)
    (n : Reading) (text : List ℕ) (bounded : IsBounded n) (utf8 : IsUtf8 text)
    (p : IsPlainInternational db n) (some : 1 ≤ n.code.value) (few : n.code.value ≤ 999)
    (free : is_prefix_free db ≡ true)
    (announcing : IsAnnounced p.territory n) (e : printed db International None n ≡ Some text) where
  found : IsFoundAs db (chars text) n n.extension
  found = international_found finds finds_announced db n text bounded utf8 p some few free
      announcing e

  pub international_back : IsLeftAlone db n.code.value (text_of n.national) → IsReadAs db (chars text) n n.extension
  international_back =
      read_as db (chars text) n n.extension found
      (plain_number db n 2 p.territory bounded.national p.plain (omega arith))

  pub international_idle : rules_have_no_plus db ≡ true → IsReadAs db (chars text) n n.extension → IsLeftAlone db n.code.value (text_of n.national)
  international_idle = idle_as db (chars text) n n.extension found
