-- What holds of every number that is read, by either rules: its code is listed, and its national
-- number is held.
use Rattle.std.proofs.Common.{◌≡◌, ◌&&◌, ℕ, ◌^◌, ◌-◌, nat_lt, cond, Bool, true, false, List, ◌∷◌}
use Rattle.std.proofs.Common.{◌++◌, length, take, drop, Option, None, Some, IfSome, IfOk, Result}
use Rattle.std.proofs.Common.{Ok, Err, refl, ap₂, subst, eq-eqb, ltb-true}
use Rattle.std.proofs.lemmas.Bool.{and_parts, cond_both}
use Rattle.std.specs.Fmt.{decimal}
use Rattle.std.specs.Option.{option_map_or}
use Rattle.std.specs.Result.{result_map_both}
use Rattle.phone_values.specs.Ids.{name}
use Rattle.phone_values.specs.Nsn.{nsn}
use Rattle.phone_values.specs.Numbers.{IsHeld, National, leading_zeros, national_in, national_with}
use Rattle.phone_values.specs.Numbers.{number_in, text_of}
use Rattle.phone_values.specs.declared.country.Id.{Id}
use Rattle.phone_values.specs.declared.country.Source.{Source}
use Rattle.phone_values.specs.declared.country.Source.TheVariants.{Default, Idd, Number, Plus}
use Rattle.phone_values.specs.declared.error.ParseError.{ParseError}
use Rattle.phone_values.specs.declared.error.ParseError.TheVariants.{TooLong, TooShortNsn}
use Rattle.phone_values.specs.declared.reading.Reading.{Reading}
use Rattle.phone_library.specs.LibraryCodes.{behind_code, code_after_sign, code_by_hint}
use Rattle.phone_library.specs.LibraryCodes.{code_by_territory, code_in, has_code}
use Rattle.phone_library.specs.Readings
use Rattle.phone_library.specs.Readings.{ReadsByLibrary, after_code, after_code_if_any}
use Rattle.phone_library.specs.Readings.{national_number, reading_of, reading_under, stripped}
use Rattle.phone_library.specs.Readings.{stripping_territory}
use Rattle.phone_library_laws.proofs.TakenCodes.{IfOk-code_after_sign, IfOk-code_in, last_any}
use Rattle.phone_library_text.specs.declared.written.WrittenNumber.{WrittenNumber}
use Rattle.phone_plans.specs.CodeLookUps.{is_listed, is_prefix_free}
use Rattle.phone_plans.specs.Records.{has_id}
use Rattle.phone_plans.specs.Records as records
use Rattle.phone_print.specs.Texts.{e164_text}
use Rattle.phone_read.proofs.ListedFronts.{shortest-listed}
use Rattle.phone_read.proofs.ReadNumbers.{number-listed, read_from}
use Rattle.phone_read.specs.Hints.{Coded, hinted}
use Rattle.phone_read.specs.Readings.{stripping_territory as by_crate_territory}
use Rattle.phone_records.specs.declared.loader.Metadata.{Metadata}
use Rattle.phone_read.specs.Dialling.{after_match, found_in}
use Rattle.phone_read.specs.Strips.{Stripped, stripped as stripped_by_crate}
use Rattle.phone_territory.specs.Records.{code_of}
use Rattle.phonenumber.proofs.Keys.{same_key}
use Rattle.phone_library_laws.specs.Keys
use Rattle.phone_library_laws.specs.Keys.{IsReadByEither}

-- ---- the national number

else_ok : (b : Bool) (e : ParseError) (r : Result National ParseError) (n : National) →
    cond b (Err e) r ≡ Ok n → r ≡ Ok n
else_ok true e r n h = cc
else_ok false e r n h = h

then_ok : (b : Bool) (e : ParseError) (v n : National) → cond b (Ok v) (Err e) ≡ Ok n →
    (b ≡ true) × (v ≡ n)
then_ok true e v n h = (refl, cc)
then_ok false e v n h = cc

with_held : (count : ℕ) (o : Option ℕ) (n : National) → national_with count o ≡ Ok n → IsHeld n
with_held count None n e = cc
with_held count (Some value) n e =
    let v : National = record { zeros = count; value = value } in
    let told = then_ok (nat_lt count 256 && nat_lt value (2 ^ 56)) TooLong v n e in
    let both = and_parts (nat_lt count 256) (nat_lt value (2 ^ 56)) told.0 in
    subst IsHeld told.1 (ltb-true count 256 both.0, ltb-true value (2 ^ 56) both.1)

held_by_crate : (t : List ℕ) (n : National) → nsn t ≡ Ok n → IsHeld n
held_by_crate t n h = with_held (leading_zeros t) (number_in 64 (drop (leading_zeros t) t)) n
    (else_ok (nat_lt 17 (length t)) TooLong (national_in t) n
    (else_ok (nat_lt (length t) 2) TooShortNsn
    (cond (nat_lt 17 (length t)) (Err TooLong) (national_in t)) n h))

held_by_library : (t : List ℕ) (n : National) → national_number t ≡ Ok n → IsHeld n
held_by_library t n h =
    let zeros = leading_zeros (take (length t - 1) t) in
    let told = national_with zeros (number_in 64 (drop zeros t)) in
    with_held zeros (number_in 64 (drop zeros t)) n
    (else_ok (nat_lt 17 (length t)) TooLong told n
    (else_ok (nat_lt (length t) 2) TooShortNsn (cond (nat_lt 17 (length t)) (Err TooLong) told) n
    h))

-- ---- the code, by libphonenumber's rules

pub record IsKeyed (db : List Metadata) (n : Reading) : Type 0 where
  pub listed : is_listed n.code.value db ≡ true
  pub held : IsHeld n.national

module _ (db : List Metadata) where
  abbrev IsListed : Coded → Type 0
  IsListed c = is_listed c.value db ≡ true

  after_sign : (source : Source) (digits : List ℕ) →
      IfOk (code_after_sign db source digits) IsListed
  after_sign source digits = IfOk-code_after_sign db IsListed source digits
      (λ code e. shortest-listed db digits code e)

  by_territory : (m : Metadata) (digits : List ℕ) → is_listed (code_of m) db ≡ true →
      IsListed (code_by_territory m digits)
  by_territory m digits listed =
      cond_both (has_code m digits)
      (record { source = Number; value = code_of m; rest = behind_code m digits })
      (record { source = Default; value = code_of m; rest = digits }) IsListed (λ _. listed)
      (λ _. listed)

  by_hint : (o : Option Metadata) (digits : List ℕ) →
      IfSome o (λ m. is_listed (code_of m) db ≡ true) → IfOk (code_by_hint db o digits) IsListed
  by_hint None digits listed = tt
  by_hint (Some m) digits listed =
      at (after_match digits (found_in m.international_prefix digits))
    where
      at : (o : Option (List ℕ)) → IfOk (option_map_or (λ after. code_after_sign db Idd after) o
          (Ok (code_by_territory m digits))) IsListed
      at None = by_territory m digits listed
      at (Some after) = after_sign Idd after

  hint_listed : (hint : Option Id) → IfSome (hinted db hint) (λ m. is_listed (code_of m) db ≡ true)
  hint_listed None = tt
  hint_listed (Some id) = at (hinted db (Some id)) refl
    where
      at : (o : Option Metadata) → hinted db (Some id) ≡ o →
          IfSome o (λ m. is_listed (code_of m) db ≡ true)
      at None e = tt
      at (Some m) e = last_any (has_id (name id)) (records.has_code (code_of m)) db m e
          (eq-eqb (code_of m) (code_of m) refl)

  abbrev KeyedIfRead : Result Reading ParseError → Type 0
  KeyedIfRead r = IfOk r (IsKeyed db)

  keyed_after : (o : Option Metadata) (e : Option (List ℕ)) (c : Coded) → IsListed c →
      KeyedIfRead (after_code db o e c)
  keyed_after o e c listed =
      cond_both (nat_lt (length c.rest) 2) (Err TooShortNsn) (reading_of c e left) KeyedIfRead
      (λ _. tt) (λ _. at (national_number left.national) refl)
    where
      left : Stripped
      left = stripped (stripping_territory db o c) c.rest

      at : (r : Result National ParseError) → national_number left.national ≡ r →
          KeyedIfRead (result_map_both (λ v. record {
            code = record { value = c.value; source = c.source };
            national = v;
            extension = e;
            carrier = left.carrier;
          }) (λ e. e) r)
      at (Err f) g = tt
      at (Ok v) g = record { listed = listed; held = held_by_library left.national v g }

  keyed_if_found : (o : Option Metadata) (e : Option (List ℕ)) (r : Result Coded ParseError) →
      IfOk r IsListed → KeyedIfRead (after_code_if_any db o e r)
  keyed_if_found o e (Err f) h = tt
  keyed_if_found o e (Ok c) h = keyed_after o e c h

  keyed_under : (hint : Option Id) (w : WrittenNumber) →
      KeyedIfRead (reading_under db (hinted db hint) w)
  keyed_under hint w =
      keyed_if_found (hinted db hint) w.extension (code_in db (hinted db hint) w.has_plus w.digits)
      (IfOk-code_in db IsListed (hinted db hint) w.has_plus w.digits (after_sign Plus w.digits)
      (by_hint (hinted db hint) w.digits (hint_listed hint)))

  keyed_reading : (hint : Option Id) (t : List ℕ) (r : Result Reading ParseError) →
      ReadsByLibrary db hint t r → KeyedIfRead r
  keyed_reading hint t r (Readings.refused e h) = tt
  keyed_reading hint t r (Readings.written w h) = keyed_under hint w

  -- by either rules
  pub keyed_if_read : (n : Reading) → IsReadByEither db n → IsKeyed db n
  keyed_if_read n (Keys.by_crate hint t h) =
      let from = read_from db hint t n h in
      record {
        listed = number-listed db hint t n h;
        held = held_by_crate (stripped_by_crate (by_crate_territory db hint from.code)
            from.code.rest).national n.national from.national;
      }
  keyed_if_read n (Keys.by_library hint t h) = keyed_reading hint t (Ok n) h

  pub read_key : (a b : Reading) → is_prefix_free db ≡ true → IsReadByEither db a →
      IsReadByEither db b → e164_text a ≡ e164_text b →
      (a.code.value ≡ b.code.value) × (a.national ≡ b.national)
  read_key a b free first second e =
      let x = keyed_if_read a first in
      let y = keyed_if_read b second in
      same_key db a b free x.listed y.listed x.held y.held e

pub same_text : (a b : Reading) → (a.code.value ≡ b.code.value) × (a.national ≡ b.national) →
    e164_text a ≡ e164_text b
same_text a b (code, national) =
    ap₂ (λ c v. 43 ∷ (decimal c ++ text_of v)) code national
