-- The calling code of a number that is read by libphonenumber's rules is listed.
use Rattle.std.proofs.Common.{◌≡◌, ℕ, nat_lt, Bool, true, List, length, Option, None, Some, IfSome, Result, Ok, Err, IfOk, refl, eq-eqb}
use Rattle.std.proofs.lemmas.Bool.{cond_both}
use Rattle.std.specs.Option.{option_map_or}
use Rattle.std.specs.Result.{result_map_both}
use Rattle.phone_values.specs.Ids.{name}
use Rattle.phone_values.specs.Numbers.{National}
use Rattle.phone_values.specs.declared.country.Id.{Id}
use Rattle.phone_values.specs.declared.country.Source.{Source}
use Rattle.phone_values.specs.declared.country.Source.TheVariants.{Plus, Idd, Number, Default}
use Rattle.phone_values.specs.declared.error.ParseError.{ParseError}
use Rattle.phone_values.specs.declared.error.ParseError.TheVariants as refusal
use Rattle.phone_values.specs.declared.reading.Reading.{Reading}
use Rattle.phone_library.specs.LibraryCodes.{behind_code, code_after_sign, code_by_hint, code_by_territory, code_in, has_code}
use Rattle.phone_library.specs.Readings
use Rattle.phone_library.specs.Readings.{ReadsByLibrary, after_code, after_code_if_any, national_number, reading_of, reading_under, stripping_territory}
use Rattle.phone_library.specs.Stripping.{stripped}
use Rattle.phone_library_laws.proofs.TakenCodes.{IfOk-code_after_sign, IfOk-code_in, last_any}
use Rattle.phone_library_text.specs.declared.written.WrittenNumber.{WrittenNumber}
use Rattle.phone_plans.specs.CodeLookUps.{is_listed}
use Rattle.phone_plans.specs.Records.{has_id}
use Rattle.phone_plans.specs.Records as records
use Rattle.phone_read.specs.Dialling.{after_match, found_in}
use Rattle.phone_read.specs.Strips.{Stripped}
use Rattle.phone_read.proofs.ListedFronts.{shortest-listed}
use Rattle.phone_read.specs.Hints.{Coded, hinted}
use Rattle.phone_records.specs.declared.loader.Metadata.{Metadata}
use Rattle.phone_territory.specs.Records.{code_of}

module _ (db : List Metadata) where
  -- the code of a territory is listed
  abbrev IsOf : Metadata → Type 0
  IsOf m = is_listed (code_of m) db ≡ true

  -- and so is one that is found
  abbrev IsListed : Coded → Type 0
  IsListed c = is_listed c.value db ≡ true

  abbrev IsListedIfFound : Result Coded ParseError → Type 0
  IsListedIfFound r = IfOk r IsListed

  of_hint : (hint : Option Id) → IfSome (hinted db hint) IsOf
  of_hint None = tt
  of_hint (Some id) = at (hinted db (Some id)) refl
    where
      at : (o : Option Metadata) → hinted db (Some id) ≡ o → IfSome o IsOf
      at None e = tt
      at (Some m) e = last_any (has_id (name id)) (records.has_code (code_of m)) db m e (eq-eqb (code_of m) (code_of m) refl)

  after_sign : (source : Source) (digits : List ℕ) → IsListedIfFound (code_after_sign db source digits)
  after_sign source digits = IfOk-code_after_sign db IsListed source digits (λ code e. shortest-listed db digits code e)

  by_territory : (m : Metadata) (digits : List ℕ) → IsOf m → IsListed (code_by_territory m digits)
  by_territory m digits h =
      cond_both (has_code m digits) (record { source = Number; value = code_of m; rest = behind_code m digits }) (record { source = Default; value = code_of m; rest = digits })
      IsListed (λ _. h) (λ _. h)

  by_hint : (o : Option Metadata) (digits : List ℕ) → IfSome o IsOf → IsListedIfFound (code_by_hint db o digits)
  by_hint None digits h = tt
  by_hint (Some m) digits h = at (after_match digits (found_in m.international_prefix digits))
    where
      at : (o : Option (List ℕ)) → IsListedIfFound (option_map_or (λ after. code_after_sign db Idd after) o (Ok (code_by_territory m digits)))
      at None = by_territory m digits h
      at (Some after) = after_sign Idd after

  in_listed : (o : Option Metadata) (has_plus : Bool) (digits : List ℕ) → IfSome o IsOf → IsListedIfFound (code_in db o has_plus digits)
  in_listed o has_plus digits h = IfOk-code_in db IsListed o has_plus digits (after_sign Plus digits) (by_hint o digits h)

  -- the code of what is read
  abbrev IsListedIfRead : Result Reading ParseError → Type 0
  IsListedIfRead r = IfOk r (λ (n : Reading). is_listed n.code.value db ≡ true)

  after_code_listed : (o : Option Metadata) (extension : Option (List ℕ)) (c : Coded) → IsListed c → IsListedIfRead (after_code db o extension c)
  after_code_listed o extension c h =
      cond_both (nat_lt (length c.rest) 2) (Err refusal.TooShortNsn) (reading_of c extension s) IsListedIfRead (λ _. tt) (λ _. at (national_number s.national))
    where
      s : Stripped
      s = stripped (stripping_territory db o c) c.rest

      at : (r : Result National ParseError) →
          IsListedIfRead (result_map_both (λ n. record { code = record { value = c.value; source = c.source }; national = n; extension = extension; carrier = s.carrier }) (λ e. e) r)
      at (Err e) = tt
      at (Ok n) = h

  if_found : (o : Option Metadata) (extension : Option (List ℕ)) (r : Result Coded ParseError) → IsListedIfFound r → IsListedIfRead (after_code_if_any db o extension r)
  if_found o extension (Err e) h = tt
  if_found o extension (Ok c) h = after_code_listed o extension c h

  under : (hint : Option Id) (w : WrittenNumber) → IsListedIfRead (reading_under db (hinted db hint) w)
  under hint w = if_found (hinted db hint) w.extension (code_in db (hinted db hint) w.has_plus w.digits) (in_listed (hinted db hint) w.has_plus w.digits (of_hint hint))

  read_listed : (hint : Option Id) (t : List ℕ) (r : Result Reading ParseError) → ReadsByLibrary db hint t r → IsListedIfRead r
  read_listed hint t r (Readings.refused e h) = tt
  read_listed hint t r (Readings.written w h) = under hint w

  pub library-listed : (hint : Option Id) (t : List ℕ) (n : Reading) → ReadsByLibrary db hint t (Ok n) → is_listed n.code.value db ≡ true
  library-listed hint t n h = read_listed hint t (Ok n) h
