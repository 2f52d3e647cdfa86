-- Digits that are dialled inside a territory are read as its number, and are if they are read so.
use Rattle.std.proofs.Common.{◌≡◌, ℕ, ◌≤◌, nat_lt, cond, Bool, true, false, List, All, length}
use Rattle.std.proofs.Common.{Option, None, Some, IfOk, Result, Ok, Err, refl, ap, sym, subst, ◌∙◌}
use Rattle.std.proofs.lemmas.Bool.{cond-false, le-ltb}
use Rattle.std.specs.Option.{option_map_or}
use Rattle.std.specs.Result.{result_map_both}
use Rattle.phone_values.specs.Numbers.{National}
use Rattle.phone_values.specs.declared.country.Id.{Id}
use Rattle.phone_values.specs.declared.country.Source.{Source}
use Rattle.phone_values.specs.declared.country.Source.TheVariants.{Default, Idd, Number}
use Rattle.phone_values.specs.declared.error.ParseError.{ParseError}
use Rattle.phone_values.specs.declared.error.ParseError.TheVariants.{TooShortNsn}
use Rattle.phone_values.specs.declared.reading.Reading.{Reading}
use Rattle.phone_library.specs.LibraryCodes.{behind_code, code_after_sign, code_by_territory}
use Rattle.phone_library.specs.LibraryCodes.{code_in, has_code}
use Rattle.phone_library.specs.Readings
use Rattle.phone_library.specs.Readings.{ReadsByLibrary, after_code, after_code_if_any}
use Rattle.phone_library.specs.Readings.{national_number, reading_of, reading_under, stripped}
use Rattle.phone_library.specs.Readings.{stripping_territory}
use Rattle.phone_library_laws.proofs.NationalTexts.{national_number-text_of}
use Rattle.phone_library_laws.proofs.PlusSigns.{All-stripped, IsNoPlus}
use Rattle.phone_library_laws.proofs.TakenCodes.{IfOk-code_after_sign}
use Rattle.phone_library_laws.proofs.WhatIsRead.{national_of_digits}
use Rattle.phone_library_text.specs.Written.{IsWritten}
use Rattle.phone_library_text.specs.declared.written.WrittenNumber.{WrittenNumber}
use Rattle.phone_read.specs.Hints.{Coded, hinted}
use Rattle.phone_records.specs.declared.loader.Metadata.{Metadata}
use Rattle.phone_read.specs.Dialling.{after_match, found_in}
use Rattle.phone_territory.specs.Records.{code_of}
use Rattle.phone_library_laws.specs.Plain.{IsDialledInside}
use Rattle.phone_library_laws.specs.Printed.{inside_reading}
use Rattle.phone_library_laws.proofs.Exactly.{IsPlainRule}
use Rattle.phone_library_laws.proofs.OwnDigits.{own_digits}

-- ---- what a number that was read tells of its code and of what was left

pub record IsAfter (db : List Metadata) (m : Option Metadata) (c : Coded) (x : Reading) : Type 0
  where
    pub source : x.code.source ≡ c.source
    pub value : x.code.value ≡ c.value
    pub national : national_number (stripped (stripping_territory db m c) c.rest).national
        ≡ Ok x.national

-- what was read
abbrev reading_in : Result Reading ParseError → Reading → Reading
reading_in (Ok r) other = r
reading_in (Err e) other = other

module _ (db : List Metadata) (m : Option Metadata) (e : Option (List ℕ)) where
  -- the number of what was left
  abbrev of_left : Coded → National → Reading
  of_left c v = record {
    code = record { value = c.value; source = c.source };
    national = v;
    extension = e;
    carrier = (stripped (stripping_territory db m c) c.rest).carrier;
  }

  left_told : (c : Coded) (x : Reading) (r : Result National ParseError) →
      national_number (stripped (stripping_territory db m c) c.rest).national ≡ r →
      result_map_both (λ v. of_left c v) (λ e. e) r ≡ Ok x → IsAfter db m c x
  left_told c x (Err f) told g = cc
  left_told c x (Ok v) told g =
      let same : of_left c v ≡ x = ap (λ r. reading_in r x) g in
      subst (IsAfter db m c) same (record { source = refl; value = refl; national = told })

  after_told : (c : Coded) (x : Reading) → after_code db m e c ≡ Ok x → IsAfter db m c x
  after_told c x h = at (nat_lt (length c.rest) 2) h
    where
      at : (b : Bool) → cond b (Err TooShortNsn)
          (reading_of c e (stripped (stripping_territory db m c) c.rest)) ≡ Ok x → IsAfter db m c x
      at true g = cc
      at false g = left_told c x
          (national_number (stripped (stripping_territory db m c) c.rest).national) refl g

  -- behind a sign the source is the sign's
  sourced : (source : Source) (r : Result Coded ParseError) → IfOk r (λ c. c.source ≡ source) →
      (x : Reading) → after_code_if_any db m e r ≡ Ok x → x.code.source ≡ source
  sourced source (Err f) told x h = cc
  sourced source (Ok c) told x h = (after_told c x h).source ∙ told

  behind_sign : (source : Source) (digits : List ℕ) (x : Reading) →
      after_code_if_any db m e (code_after_sign db source digits) ≡ Ok x → x.code.source ≡ source
  behind_sign source digits x h = sourced source (code_after_sign db source digits)
      (IfOk-code_after_sign db (λ c. c.source ≡ source) source digits (λ code f. refl)) x h

module _ (db : List Metadata) (m : Metadata) (n : Reading) (digits : List ℕ)
    (enough : 2 ≤ length digits) where
  -- how the number is written
  abbrev pub unsigned : WrittenNumber
  unsigned = record { has_plus = false; digits = digits; extension = n.extension }

  abbrev pub inside : Reading
  inside = inside_reading n (stripped (Some m) digits).carrier

  -- the code is that of the territory
  abbrev coded : Coded
  coded = record { source = Default; value = code_of m; rest = digits }

  -- what is written so is read as the digits tell
  pub reads_inside : (hint : Option Id) (t : List ℕ) → hinted db hint ≡ Some m →
      IsWritten t (Ok unsigned) → ReadsByLibrary db hint t (reading_under db (Some m) unsigned)
  reads_inside hint t there written = subst (ReadsByLibrary db hint t)
      (ap (λ o. reading_under db o unsigned) there) (Readings.written unsigned written)

  module _ (h : IsDialledInside m n digits) where
    inside_code : code_in db (Some m) false digits ≡ Ok coded
    inside_code =
        ap (λ o. option_map_or (λ after. code_after_sign db Idd after) o
        (Ok (code_by_territory m digits))) h.no_prefix
        ∙ ap (λ c. Ok c) (cond-false _ _ _ h.no_code)

    own : national_number (stripped (Some m) digits).national ≡ Ok n.national
    own = ap national_number h.left
        ∙ national_number-text_of n.national h.held h.long_enough h.short_enough

    after : after_code db (Some m) n.extension coded ≡ Ok inside
    after = cond-false _ _ _ (le-ltb (length digits) 2 enough) ∙ rw (own, h.code)

    pub read_inside : reading_under db (Some m) unsigned ≡ Ok inside
    read_inside = ap (after_code_if_any db (Some m) n.extension) inside_code ∙ after

  -- and the other way: if that is the number, the digits are dialled inside
  module _ (plain : All IsNoPlus digits) (rule : IsPlainRule m) where
    abbrev found : Option (List ℕ)
    found = after_match digits (found_in m.international_prefix digits)

    default_only : after_match digits (found_in m.international_prefix digits) ≡ None →
        has_code m digits ≡ false → after_code db (Some m) n.extension coded ≡ Ok inside →
        IsDialledInside m n digits
    default_only none no_code h =
        let told = after_told db (Some m) n.extension coded inside h in
        let all : All IsNoPlus (stripped (Some m) digits).national =
        All-stripped IsNoPlus digits plain (Some m) rule in
        let same = own_digits (stripped (Some m) digits).national n.national all told.national in
        let fine = national_of_digits (stripped (Some m) digits).national n.national all
        told.national in
        record {
          code = sym told.value;
          no_prefix = none;
          no_code = no_code;
          left = sym same;
          held = fine.held;
          long_enough = fine.long_enough;
          short_enough = fine.short_enough;
        }

    by_code : (b : Bool) → has_code m digits ≡ b → found ≡ None →
        after_code db (Some m) n.extension (cond b
        (record { source = Number; value = code_of m; rest = behind_code m digits }) coded)
        ≡ Ok inside → IsDialledInside m n digits
    by_code true e none h =
        let other : Default ≡ Number = (after_told db (Some m) n.extension
        (record { source = Number; value = code_of m; rest = behind_code m digits }) inside
        h).source in cc
    by_code false e none h = default_only none e h

    by_prefix : (o : Option (List ℕ)) → found ≡ o →
        after_code_if_any db (Some m) n.extension
        (option_map_or (λ after. code_after_sign db Idd after) o
        (Ok (code_by_territory m digits))) ≡ Ok inside → IsDialledInside m n digits
    by_prefix (Some after) e h =
        let other : Default ≡ Idd = behind_sign db (Some m) n.extension Idd after inside h in cc
    by_prefix None e h = by_code (has_code m digits) refl e h

    pub inside_if_read : reading_under db (Some m) unsigned ≡ Ok inside → IsDialledInside m n digits
    inside_if_read h = by_prefix found refl h
