-- Digits that both readings strip alike: those that are dialled alone, or behind a national prefix.
use Rattle.std.proofs.Common.{◌≡◌, ℕ, ◌==◌, ◌&&◌, nat_eq, not, Bool, true, false, if◌then◌else◌, List, [], length, drop, Option, None, Some, option_map, Result, refl, ap, sym, subst, ◌∙◌, arith, true≢false}
use Rattle.std.proofs.Math.Seq.{drop-append_seam}
use Rattle.std.proofs.lemmas.Bool.{cond-false, cond-true}
use Rattle.std.specs.List.{list_all, list_any}
use Rattle.std.specs.Option.{option_map_or}
use Rattle.phone_values.specs.declared.country.Id.{Id}
use Rattle.phone_values.specs.declared.country.Source.TheVariants.{Default}
use Rattle.phone_values.specs.declared.error.ParseError.{ParseError}
use Rattle.phone_values.specs.declared.reading.Reading.{Reading}
use Rattle.phone_values.specs.declared.validator.Validation.{Validation}
use Rattle.phone_values.specs.declared.validator.Validation.TheVariants.{IsPossible, IsPossibleLocalOnly, InvalidCountryCode, InvalidLength, TooLong, TooShort}
use Rattle.phone_read.specs.Strips as strips
use Rattle.phone_read.specs.Strips.{Stripped, by_match, cut_by, left_by, off_match, off_prefix, stay, step}
use Rattle.phone_read.specs.Verdicts.{is_too_short, verdict, verdict_of}
use Rattle.phone_library.specs.Kinds.{matches_whole}
use Rattle.phone_library.specs.Lengths.{length_in, local_lengths, may_be_left}
use Rattle.phone_library.specs.LibraryCodes.{code_in}
use Rattle.phone_library.specs.Readings as second
use Rattle.phone_library.specs.Readings.{ReadsByLibrary}
use Rattle.phone_library.specs.Stripping as stripping
use Rattle.phone_library.specs.Stripping.{left_by_match, left_by_pattern, left_by_prefix, left_by_text, untouched}
use Rattle.phone_library_laws.specs.Agreement
use Rattle.phone_library_laws.specs.Agreement.{IsOwnNumber, IsReadAlike, IsStrippedAlike, after_prefix}
use Rattle.phone_library_laws.specs.Prefixes
use Rattle.phone_library_laws.specs.Prefixes.{IsBare, IsDialledAlike, IsDialledFor, IsHomeNumber, IsPrefixed, front_alone}
use Rattle.phone_parts.specs.Texts.{is_front, without_front}
use Rattle.phone_parts.proofs.Prefixes.{without_front-append}
use Rattle.phone_read.specs.Hints.{Coded, hinted}
use Rattle.phone_read.specs.Readings as first
use Rattle.phone_read.specs.Readings.{Reads}
use Rattle.phone_records.specs.declared.loader.Descriptor.{Descriptor}
use Rattle.phone_records.specs.declared.loader.Metadata.{Metadata}
use Rattle.phone_territory.specs.First.{Captured, Seen, at_start, captured, captured_by, first_match, last_group}
use Rattle.phone_territory.specs.Records.{code_of}
use Rattle.phone_library_laws.proofs.AlikeCodes.{second_own}
use Rattle.phone_library_laws.proofs.AlikeNumbers.{same_code}
use Rattle.phone_library_laws.proofs.AlikeReadings.{PlainNational, readings_alike}
use Rattle.phone_library_laws.proofs.ReadAgain.{PlainInternational}
use Rattle.phone_library_laws.proofs.ReadOnce.{OneWritten}

one_way : {X : Type 0} (b : Bool) (x : X) → (if b then x else x) ≡ x
one_way true x = refl
one_way false x = refl

-- ---- as many digits as may be left aren't too few

left_not_short : (v : Validation) → may_be_left v ≡ true → is_too_short v ≡ false
left_not_short IsPossible h = refl
left_not_short IsPossibleLocalOnly h = refl
left_not_short InvalidCountryCode h = refl
left_not_short TooShort h = absurd (true≢false (sym h))
left_not_short InvalidLength h = refl
left_not_short TooLong h = refl

no_lengths : (o : Option Descriptor) (n : ℕ) → nat_eq (length (option_map_or (λ (d : Descriptor). d.possible_length) o [])) 0 ≡ true →
    is_too_short (verdict_of (option_map_or (λ (d : Descriptor). d.possible_length) o []) o n) ≡ false
no_lengths None n e = refl
no_lengths (Some d) n e = ap is_too_short (cond-true _ _ _ e)

not_too_short : (m : Metadata) (n : ℕ) → may_be_left (length_in m n) ≡ true → is_too_short (verdict m n) ≡ false
not_too_short m n h = by (nat_eq (length (option_map_or (λ (d : Descriptor). d.possible_length) m.general [])) 0) refl
    (if list_any (λ l. l == n) (local_lengths m) then IsPossibleLocalOnly else IsPossible) h
  where
    by : (b : Bool) → nat_eq (length (option_map_or (λ (d : Descriptor). d.possible_length) m.general [])) 0 ≡ b → (local : Validation) →
        may_be_left (if b then local else verdict m n) ≡ true → is_too_short (verdict m n) ≡ false
    by true e local h = no_lengths m.general n e
    by false e local h = left_not_short (verdict m n) h

-- what isn't lost is kept
not_lost : (before after : Bool) → (before ≡ true → after ≡ true) → (before && not after) ≡ false
not_lost false after h = refl
not_lost true true h = refl
not_lost true false h = sym (h refl)

-- ---- in a territory

module _ (m : Metadata) (digits : List ℕ) where
  no_front : (o : Option (List ℕ)) (ds : List ℕ) → option_map_or (λ prefix. is_front prefix ds) o false ≡ false → without_front o ds ≡ ds
  no_front None ds h = refl
  no_front (Some prefix) ds h = cond-false _ _ _ h

  abbrev kept_if_short : Stripped → Stripped
  kept_if_short t = if is_too_short (verdict m (length t.national)) then untouched digits else t

  first_from : (national : List ℕ) → step m digits None ≡ untouched national → without_front m.national_prefix national ≡ national →
      kept_if_short (untouched national) ≡ untouched national → strips.stripped (Some m) digits ≡ untouched national
  first_from national stepped once kept =
      ap (λ (t : Stripped). kept_if_short (record { national = without_front m.national_prefix t.national; carrier = t.carrier })) stepped
      ∙ ap (λ ds. kept_if_short (untouched ds)) once ∙ kept

  abbrev kept_if_general : Stripped → Stripped
  kept_if_general t = if matches_whole m.general digits && not (matches_whole m.general t.national) then untouched digits else t

  abbrev kept_if_few : Stripped → Stripped
  kept_if_few t = if may_be_left (length_in m (length t.national)) then t else untouched digits

  second_from : (national : List ℕ) → left_by_prefix m digits ≡ untouched national → kept_if_general (untouched national) ≡ untouched national →
      kept_if_few (untouched national) ≡ untouched national → stripping.stripped (Some m) digits ≡ untouched national
  second_from national left general few = ap kept_if_few (ap kept_if_general left ∙ general) ∙ few

  -- a match that isn't at the front
  first_stays : (pattern : List ℕ) (o : Option Seen) → option_map_or (λ (s : Seen). s.0 == 0) o false ≡ false →
      option_map_or (λ (found : Captured). if found.span.0 == 0 then by_match m pattern m.national_prefix_transform_rule digits found found.last else stay)
      (option_map (captured_by (last_group pattern)) o) stay ≡ stay
  first_stays pattern None h = refl
  first_stays pattern (Some s) h = cond-false _ _ _ h

  second_stays : (pattern : List ℕ) (o : Option Seen) → option_map_or (λ (s : Seen). s.0 == 0) o false ≡ false →
      option_map_or (λ (found : Captured).
      if found.span.0 == 0 then left_by_match pattern m.national_prefix_transform_rule digits found found.last else untouched digits)
      (option_map (captured_by (last_group pattern)) o) (untouched digits) ≡ untouched digits
  second_stays pattern None h = refl
  second_stays pattern (Some s) h = cond-false _ _ _ h

  -- a match of a front alone
  first_off : (pattern : List ℕ) (rule : Option (List ℕ)) (n : ℕ) → by_match m pattern rule digits (front_alone n) None ≡ off_match n None
  first_off pattern None n = refl
  first_off pattern (Some rule) n = refl

  second_off : (pattern : List ℕ) (rule : Option (List ℕ)) (n : ℕ) →
      left_by_match pattern rule digits (front_alone n) None ≡ untouched (drop n digits)
  second_off pattern None n = refl
  second_off pattern (Some rule) n = refl

  module _ (h : IsBare m digits) where
    same : without_front m.national_prefix digits ≡ digits
    same = no_front m.national_prefix digits h.no_prefix

    bare_step : (o : Option (List ℕ)) → option_map_or (λ pattern. at_start pattern digits) o false ≡ false →
        left_by m digits None (option_map_or (λ pattern. cut_by m pattern digits) o off_prefix) ≡ untouched digits
    bare_step None e = ap untouched same
    bare_step (Some pattern) e = ap (left_by m digits None) (first_stays pattern (first_match pattern digits) e)

    bare_prefix : (o : Option (List ℕ)) → option_map_or (λ pattern. at_start pattern digits) o false ≡ false →
        option_map_or (λ (pattern : List ℕ). left_by_pattern pattern m.national_prefix_transform_rule digits) o (left_by_text m.national_prefix digits) ≡ untouched digits
    bare_prefix None e = ap untouched same
    bare_prefix (Some pattern) e = second_stays pattern (first_match pattern digits) e

    first_bare : strips.stripped (Some m) digits ≡ untouched digits
    first_bare =
        first_from digits (bare_step m.national_prefix_for_parsing h.no_match) same (one_way (is_too_short (verdict m (length digits))) (untouched digits))

    second_bare : stripping.stripped (Some m) digits ≡ untouched digits
    second_bare =
        second_from digits (bare_prefix m.national_prefix_for_parsing h.no_match)
        (one_way (matches_whole m.general digits && not (matches_whole m.general digits)) (untouched digits))
        (one_way (may_be_left (length_in m (length digits))) (untouched digits))

  module _ (national : List ℕ) (h : IsPrefixed m digits national) where
    cut_off : without_front m.national_prefix digits ≡ national
    cut_off =
        ap (λ o. without_front o digits) h.is_prefix ∙ ap (without_front (Some h.prefix)) h.whole ∙ without_front-append h.prefix national

    once : without_front m.national_prefix national ≡ national
    once = ap (λ o. without_front o national) h.is_prefix ∙ cond-false _ _ _ h.once

    dropped : drop (length h.prefix) digits ≡ national
    dropped = ap (drop (length h.prefix)) h.whole ∙ drop-append_seam h.prefix national

    abbrev MatchesPrefix : Option (List ℕ) → Type 0
    MatchesPrefix o = (pattern : List ℕ) → o ≡ Some pattern → captured pattern digits ≡ Some (front_alone (length h.prefix))

    prefixed_step : (o : Option (List ℕ)) → MatchesPrefix o →
        left_by m digits None (option_map_or (λ pattern. cut_by m pattern digits) o off_prefix) ≡ untouched national
    prefixed_step None e = ap untouched cut_off
    prefixed_step (Some pattern) e =
        ap (λ o. left_by m digits None (option_map_or (λ (found : Captured).
        if found.span.0 == 0 then by_match m pattern m.national_prefix_transform_rule digits found found.last else stay) o stay)) (e pattern refl)
        ∙ ap (left_by m digits None) (first_off pattern m.national_prefix_transform_rule (length h.prefix)) ∙ ap untouched dropped

    prefixed_left : (o : Option (List ℕ)) → MatchesPrefix o →
        option_map_or (λ (pattern : List ℕ). left_by_pattern pattern m.national_prefix_transform_rule digits) o (left_by_text m.national_prefix digits) ≡ untouched national
    prefixed_left None e = ap untouched cut_off
    prefixed_left (Some pattern) e =
        ap (λ o. option_map_or (λ (found : Captured).
        if found.span.0 == 0 then left_by_match pattern m.national_prefix_transform_rule digits found found.last else untouched digits) o (untouched digits)) (e pattern refl)
        ∙ second_off pattern m.national_prefix_transform_rule (length h.prefix) ∙ ap untouched dropped

    first_prefixed : strips.stripped (Some m) digits ≡ untouched national
    first_prefixed =
        first_from national (prefixed_step m.national_prefix_for_parsing h.by_pattern) once
        (cond-false _ _ _ (not_too_short m (length national) h.enough))

    second_prefixed : stripping.stripped (Some m) digits ≡ untouched national
    second_prefixed =
        second_from national (prefixed_left m.national_prefix_for_parsing h.by_pattern)
        (cond-false _ _ _ (not_lost (matches_whole m.general digits) (matches_whole m.general national) h.general)) (cond-true _ _ _ h.enough)

first_left : (o : Option Metadata) (digits national : List ℕ) → IsDialledFor o digits national → strips.stripped o digits ≡ untouched national
first_left _ _ _ (Prefixes.unknown digits) = refl
first_left _ _ _ (Prefixes.bare m digits h) = first_bare m digits h
first_left _ _ _ (Prefixes.prefixed m digits national h) = first_prefixed m digits national h

second_left : (o : Option Metadata) (digits national : List ℕ) → IsDialledFor o digits national → stripping.stripped o digits ≡ untouched national
second_left _ _ _ (Prefixes.unknown digits) = refl
second_left _ _ _ (Prefixes.bare m digits h) = second_bare m digits h
second_left _ _ _ (Prefixes.prefixed m digits national h) = second_prefixed m digits national h

-- ---- after a calling code

pub stripped_alike : (db : List Metadata) (hint : Option Id) (c : Coded) → IsDialledAlike db hint c → IsStrippedAlike db hint c
stripped_alike db hint c h =
    let by_second : stripping.stripped (second.stripping_territory db (hinted db hint) c) c.rest ≡ untouched h.national =
    second_left (second.stripping_territory db (hinted db hint) c) c.rest h.national h.by_second in
    record {
      two = h.two;
      alike = first_left (first.stripping_territory db hint c) c.rest h.national h.by_first ∙ sym by_second;
      not_zeros = ap (λ (t : Stripped). list_all (λ d. d == 48) t.national) by_second ∙ h.not_zeros;
    }

-- ---- in the hint's territory

module _ (db : List Metadata) (hint : Option Id) (digits : List ℕ) (h : IsHomeNumber db hint digits) where
  abbrev t : Metadata
  t = h.territory

  abbrev own_coded : Coded
  own_coded = record { source = Default; value = code_of t; rest = digits }

  -- under a hint with a territory the first reading strips by it
  first_territory : (o : Option Id) → hinted db o ≡ Some t → first.stripping_territory db o own_coded ≡ Some t
  first_territory None e = absurd (let nothing : None ≡ Some t = e in cc)
  first_territory (Some id) e = e

  not_after : after_prefix (hinted db hint) digits ≡ None
  not_after = ap (λ o. after_prefix o digits) h.is_hint ∙ h.not_international

  dialled_alike : IsDialledAlike db hint own_coded
  dialled_alike = record {
    national = h.national;
    two = omega (arith, h.enough);
    by_first = subst (λ o. IsDialledFor o digits h.national) (sym (first_territory hint h.is_hint)) h.dialled;
    by_second = subst (λ o. IsDialledFor o digits h.national) (sym h.is_hint) h.dialled;
    not_zeros = h.not_zeros;
  }

  home_read_alike : IsReadAlike db hint false digits
  home_read_alike = record {
    digits_alone = h.digits_alone;
    enough = h.enough;
    few = h.few;
    coded = Agreement.own t h.is_hint not_after h.no_code;
    stripped = λ c e.
        subst (IsStrippedAlike db hint)
        (same_code (code_in db (hinted db hint) false digits) c own_coded e (second_own db hint digits h.digits_alone t h.is_hint not_after h.no_code))
        (stripped_alike db hint own_coded dialled_alike);
  }

  pub home_alike : OneWritten → PlainInternational → PlainNational → (a b : Result Reading ParseError) → Reads db hint digits a → ReadsByLibrary db hint digits b → a ≡ b
  home_alike one international national a b reads by_library =
      readings_alike one international national db hint false digits a b home_read_alike reads by_library

-- a territory without a national prefix and without a parsing pattern has nothing at the front
own_is_home : (db : List Metadata) (hint : Option Id) (digits : List ℕ) → IsOwnNumber db hint digits → IsHomeNumber db hint digits
own_is_home db hint digits h = record {
  territory = h.territory;
  national = digits;
  is_hint = h.is_hint;
  dialled = Prefixes.bare h.territory digits (record {
    no_prefix = ap (λ o. option_map_or (λ prefix. is_front prefix digits) o false) h.no_prefix;
    no_match = ap (λ o. option_map_or (λ pattern. at_start pattern digits) o false) h.no_pattern;
  });
  digits_alone = h.digits_alone;
  enough = h.enough;
  few = h.few;
  not_zeros = h.not_zeros;
  not_international = h.not_international;
  no_code = h.no_code;
}

pub own_alike : (db : List Metadata) (hint : Option Id) (digits : List ℕ) → IsOwnNumber db hint digits → OneWritten → PlainInternational → PlainNational →
    (a b : Result Reading ParseError) → Reads db hint digits a → ReadsByLibrary db hint digits b → a ≡ b
own_alike db hint digits own = home_alike db hint digits (own_is_home db hint digits own)
