-- Both readings find one calling code in ASCII digits, with a plus sign before them or without.
use Rattle.std.proofs.Common.{◌≡◌, ℕ, ◌<◌, ◌≤◌, ◌&&◌, ◌||◌, not, Bool, true, false, List, [], ◌∷◌, length, drop, Option, None, Some, unwrap_or, Result, Ok, Err, refl, ap, sym, ◌∙◌, arith}
use Rattle.std.proofs.lemmas.Bool.{and_left, and_parts, cond-false}
use Rattle.std.specs.Fmt.{decimal}
use Rattle.std.specs.List.{list_all}
use Rattle.std.specs.Option.{option_map_or}
use Rattle.phone_chars.proofs.Norms.{norm_digits}
use Rattle.phone_chars.specs.Characters.{is_digit, is_plus}
use Rattle.phone_chars.specs.Cuts.{after_front}
use Rattle.phone_chars.specs.Norm.{norm}
use Rattle.phone_values.specs.declared.country.Id.{Id}
use Rattle.phone_values.specs.declared.country.Source.TheVariants.{Plus, Idd, Default}
use Rattle.phone_values.specs.declared.error.ParseError.{ParseError}
use Rattle.phone_values.specs.declared.error.ParseError.TheVariants.{InvalidCountryCode}
use Rattle.phone_library.specs.LibraryCodes.{behind_code, code_after_sign, code_in, or_by_hint}
use Rattle.phone_library.specs.LibraryCodes as second
use Rattle.phone_library.specs.Kinds.{matches_whole}
use Rattle.phone_library.specs.Lengths.{is_too_long, length_in}
use Rattle.phone_library_laws.specs.Agreement
use Rattle.phone_library_laws.specs.Agreement.{IsCodedAlike, after_prefix, digits_text}
use Rattle.phone_plans.specs.CodeLookUps.{shortest}
use Rattle.phone_parts.specs.Texts.{begins, is_front}
use Rattle.phone_read.specs.Dialling.{after_match, found_in, source_of, unsigned}
use Rattle.phone_read.proofs.ListedFronts.{more_than_two}
use Rattle.phone_read.specs.CallingCodes.{code_by, code_by_front, code_of, international_prefix_of}
use Rattle.phone_read.specs.Hints.{Coded, hinted, looks_national}
use Rattle.phone_read.specs.Hints as first
use Rattle.phone_records.specs.declared.loader.Metadata.{Metadata}
use Rattle.phone_territory.specs.Records as territory
use Rattle.phonenumber.proofs.ThinTexts.{digit_unsigned}
use Rattle.phone_library_laws.proofs.ReadAgain.{not_few}

-- digits have no plus sign at their front
no_sign : (d : List ℕ) → list_all is_digit d ≡ true → after_front is_plus d ≡ d
no_sign [] h = refl
no_sign (c ∷ cs) h = cond-false _ _ _ (digit_unsigned c (and_parts (is_digit c) (list_all is_digit cs) h).0)

not_signed : (d : List ℕ) → list_all is_digit d ≡ true → begins is_plus d ≡ false
not_signed [] h = refl
not_signed (c ∷ cs) h = digit_unsigned c (and_parts (is_digit c) (list_all is_digit cs) h).0

unsigned_digits : (d : List ℕ) → list_all is_digit d ≡ true → unsigned d ≡ d
unsigned_digits d h = ap norm (no_sign d h) ∙ norm_digits d h

module _ (db : List Metadata) (hint : Option Id) (d : List ℕ) (digits : list_all is_digit d ≡ true) where
  abbrev m : Option Metadata
  m = hinted db hint

  -- the first reading's code, by whether there is a plus sign and by what follows the international prefix
  abbrev first_code : Bool → Option (List ℕ) → Result Coded ParseError
  first_code signed after = code_by db m None (source_of signed after) (unwrap_or after d)

  abbrev first_by : Bool → List ℕ → Result Coded ParseError
  first_by signed u =
      let after = after_match u (found_in (international_prefix_of m) u) in
      code_by db m None (source_of signed after) (unwrap_or after u)

  first-signed : (after : Option (List ℕ)) → after_prefix m d ≡ after → code_of db hint (43 ∷ d) None ≡ first_code true after
  first-signed after e =
      let same : unsigned (43 ∷ d) ≡ d = unsigned_digits d digits in
      let told : code_of db hint (43 ∷ d) None ≡ first_by true d = ap (first_by true) same in
      told ∙ ap (first_code true) e

  first-unsigned : (after : Option (List ℕ)) → after_prefix m d ≡ after → code_of db hint d None ≡ first_code false after
  first-unsigned after e =
      let told : code_of db hint d None ≡ first_by (begins is_plus d) d = ap (first_by (begins is_plus d)) (unsigned_digits d digits) in
      told ∙ ap (λ b. first_by b d) (not_signed d digits) ∙ ap (first_code false) e

  -- a listed code after a plus sign
  signed : 3 ≤ length d → (code : ℕ) → after_prefix m d ≡ None → shortest db d ≡ Some code → code_of db hint (43 ∷ d) None ≡ code_in db m true d
  signed three code none found =
      let c : Coded = record { source = Plus; value = code; rest = drop (length (decimal code)) d } in
      let front : code_by_front db Plus d ≡ Ok c = rw found in
      let sign : code_after_sign db Plus d ≡ Ok c = cond-false _ _ _ (not_few (length d) (omega (arith, three))) ∙ front in
      let by_library : code_in db m true d ≡ Ok c = ap (or_by_hint db m d) sign in
      first-signed None none ∙ more_than_two d (code_by_front db Plus d) (omega (arith, three)) ∙ front ∙ sym by_library

  -- the hint's international prefix is that of its territory, and without a territory there is none
  abbrev second_by : Option Metadata → Option (List ℕ) → Result Coded ParseError
  second_by None after = Err InvalidCountryCode
  second_by (Some t) after = option_map_or (λ a. code_after_sign db Idd a) after (Ok (second.code_by_territory t d))

  second-unsigned : (o : Option Metadata) (after : Option (List ℕ)) → after_prefix o d ≡ after → code_in db o false d ≡ second_by o after
  second-unsigned None after e = refl
  second-unsigned (Some t) after e = ap (second_by (Some t)) e

  prefixed_by : (o : Option Metadata) (after : List ℕ) → after_prefix o d ≡ Some after → second_by o (Some after) ≡ code_after_sign db Idd after
  prefixed_by None after e = absurd (let nothing : None ≡ Some after = e in cc)
  prefixed_by (Some t) after e = refl

  prefixed : (after : List ℕ) → after_prefix m d ≡ Some after → 2 < length after → code_of db hint d None ≡ code_in db m false d
  prefixed after e more =
      let by_front = code_by_front db Idd after in
      let by_library : code_in db m false d ≡ by_front =
      second-unsigned m (Some after) e ∙ prefixed_by m after e ∙ cond-false _ _ _ (not_few (length after) more) in
      first-unsigned (Some after) e ∙ more_than_two after by_front more ∙ sym by_library

  -- the code of the hint's territory
  pub second_own : (t : Metadata) → m ≡ Some t → after_prefix m d ≡ None → is_front (decimal (territory.code_of t)) d ≡ false →
      code_in db m false d ≡ Ok (record { source = Default; value = territory.code_of t; rest = d })
  second_own t is_hint none other =
      let c : Coded = record { source = Default; value = territory.code_of t; rest = d } in
      let by_territory : second.code_by_territory t d ≡ c = cond-false _ _ _ (and_left _ ((not (matches_whole t.general d) && matches_whole t.general (behind_code t d)) || is_too_long (length_in t (length d))) other) in
      second-unsigned m None none ∙ ap (λ o. second_by o None) is_hint ∙ ap Ok by_territory

  own : (t : Metadata) → m ≡ Some t → after_prefix m d ≡ None → is_front (decimal (territory.code_of t)) d ≡ false → code_of db hint d None ≡ code_in db m false d
  own t is_hint none other =
      let c : Coded = record { source = Default; value = territory.code_of t; rest = d } in
      let by_first : first.code_by_hint t d ≡ c = cond-false _ _ _ (and_left _ (not (looks_national t d)) other) in
      first-unsigned None none ∙ ap (λ o. option_map_or (λ t. Ok (first.code_by_hint t d)) o (Err InvalidCountryCode)) is_hint ∙ ap Ok by_first
      ∙ sym (second_own t is_hint none other)

  pub coded_alike : 3 ≤ length d → (has_plus : Bool) → IsCodedAlike db m d has_plus → code_of db hint (digits_text has_plus d) None ≡ code_in db m has_plus d
  coded_alike three has_plus (Agreement.signed code none found) = signed three code none found
  coded_alike three has_plus (Agreement.prefixed after e more) = prefixed after e more
  coded_alike three has_plus (Agreement.own t is_hint none other) = own t is_hint none other
