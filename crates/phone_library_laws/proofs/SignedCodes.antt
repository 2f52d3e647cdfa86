-- What the hint has to do with a number that is written with a plus sign.
use Rattle.std.proofs.Common.{◌≡◌, ◌⊎◌, inl, inr, ℕ, ◌&&◌, ◌||◌, nat_le, Bool, true, false, if◌then◌else◌, List, length, drop, Option, None, Some, Result, Ok, Err, refl, ap, sym, ◌∙◌, true≢false}
use Rattle.std.proofs.lemmas.Bool.{and_parts}
use Rattle.std.specs.Fmt.{decimal}
use Rattle.std.specs.Option.{is_some, option_map_or}
use Rattle.phone_values.specs.declared.country.Id.{Id}
use Rattle.phone_values.specs.declared.country.Source.{Source}
use Rattle.phone_values.specs.declared.country.Source.TheVariants.{Plus, Idd, Number, Default}
use Rattle.phone_values.specs.declared.error.ParseError.{ParseError}
use Rattle.phone_values.specs.declared.error.ParseError.TheVariants.{InvalidCountryCode, TooShortAfterIdd}
use Rattle.phone_values.specs.declared.reading.Reading.{Reading}
use Rattle.phone_library.specs.LibraryCodes.{code_by_hint, code_in, cut_off, or_by_hint}
use Rattle.phone_library.specs.Readings
use Rattle.phone_library.specs.Readings.{ReadsByLibrary, after_code_if_any, reading_under}
use Rattle.phone_library_laws.specs.Signs.{is_told_by_sign, without_sign}
use Rattle.phone_library_text.specs.Written.{IsWritten}
use Rattle.phone_library_text.specs.declared.written.WrittenNumber.{WrittenNumber}
use Rattle.phone_plans.specs.CodeLookUps.{shortest}
use Rattle.phone_read.specs.Hints.{Coded, hinted}
use Rattle.phone_records.specs.declared.loader.Metadata.{Metadata}
use Rattle.phone_library_laws.proofs.ReadOnce.{OneWritten, read_if_refused, read_if_written}

-- a code after a plus sign, by whether there are few digits and by the shortest listed code
abbrev after_plus : List ℕ → Bool → Option ℕ → Result Coded ParseError
after_plus digits few shortest_code =
    if few then Err TooShortAfterIdd
    else option_map_or (λ code. Ok (record { source = Plus; value = code; rest = drop (length (decimal code)) digits })) shortest_code (Err InvalidCountryCode)

module _ (db : List Metadata) (m o : Option Metadata) (digits : List ℕ) (extension : Option (List ℕ)) where
  -- a code that the sign tells, and what is read after it, is none of the hint's
  by_sign : (few : Bool) (code : Option ℕ) → (few || is_some code) ≡ true →
      after_code_if_any db m extension (or_by_hint db m digits (after_plus digits few code))
      ≡ after_code_if_any db o extension (or_by_hint db o digits (after_plus digits few code))
  by_sign true code h = refl
  by_sign false (Some code) h = refl
  by_sign false None h = absurd (true≢false (sym h))

pub read-told : (db : List Metadata) (m o : Option Metadata) (w : WrittenNumber) → is_told_by_sign db w ≡ true → reading_under db m w ≡ reading_under db o w
read-told db m o w told =
    let both = and_parts w.has_plus (nat_le (length w.digits) 2 || is_some (shortest db w.digits)) told in
    ap (λ b. after_code_if_any db m w.extension (code_in db m b w.digits)) both.0
    ∙ by_sign db m o w.digits w.extension (nat_le (length w.digits) 2) (shortest db w.digits) both.1
    ∙ sym (ap (λ b. after_code_if_any db o w.extension (code_in db o b w.digits)) both.0)

-- else the code after a plus sign is the hint's to tell
module _ (db : List Metadata) (m : Option Metadata) (digits : List ℕ) where
  by_hint : (few : Bool) (code : Option ℕ) → (few || is_some code) ≡ false → or_by_hint db m digits (after_plus digits few code) ≡ cut_off (code_by_hint db m digits)
  by_hint true code h = absurd (true≢false h)
  by_hint false (Some code) h = absurd (true≢false h)
  by_hint false None h = refl

code_in-untold : (db : List Metadata) (m : Option Metadata) (w : WrittenNumber) → w.has_plus ≡ true → is_told_by_sign db w ≡ false →
    code_in db m w.has_plus w.digits ≡ cut_off (code_by_hint db m w.digits)
code_in-untold db m w plus untold =
    ap (λ b. code_in db m b w.digits) plus
    ∙ by_hint db m w.digits (nat_le (length w.digits) 2) (shortest db w.digits)
    (sym (ap (λ b. b && (nat_le (length w.digits) 2 || is_some (shortest db w.digits))) plus) ∙ untold)

-- without a territory of the hint there is no code then
code_in-none : (db : List Metadata) (w : WrittenNumber) (b : Bool) → w.has_plus ≡ b → is_told_by_sign db w ≡ false → code_in db None w.has_plus w.digits ≡ Err InvalidCountryCode
code_in-none db w true plus untold = code_in-untold db None w plus untold
code_in-none db w false plus untold = ap (λ b. code_in db None b w.digits) plus

pub read-refused : (db : List Metadata) (w : WrittenNumber) → is_told_by_sign db w ≡ false → reading_under db None w ≡ Err InvalidCountryCode
read-refused db w untold = ap (after_code_if_any db None w.extension) (code_in-none db w w.has_plus refl untold)

-- with one, a number is refused, or read as without the sign
module _ (db : List Metadata) (m : Option Metadata) (extension : Option (List ℕ)) where
  abbrev Cut : Result Coded ParseError → Type 0
  Cut c =
      (after_code_if_any db m extension (cut_off c) ≡ Err InvalidCountryCode) ⊎ (after_code_if_any db m extension (cut_off c) ≡ after_code_if_any db m extension c)

  cut_by : (source : Source) (value : ℕ) (rest : List ℕ) → Cut (Ok (record { source = source; value = value; rest = rest }))
  cut_by Default value rest = inl refl
  cut_by Plus value rest = inr refl
  cut_by Idd value rest = inr refl
  cut_by Number value rest = inr refl

  cut_or_kept : (c : Result Coded ParseError) → Cut c
  cut_or_kept (Err e) = inr refl
  cut_or_kept (Ok c) = cut_by c.source c.value c.rest

pub read-again : (db : List Metadata) (m : Option Metadata) (w : WrittenNumber) → w.has_plus ≡ true → is_told_by_sign db w ≡ false →
    (reading_under db m w ≡ Err InvalidCountryCode) ⊎ (reading_under db m w ≡ reading_under db m (without_sign w))
read-again db m w plus untold =
    let same = ap (after_code_if_any db m w.extension) (code_in-untold db m w plus untold) in
    elim (cut_or_kept db m w.extension (code_by_hint db m w.digits)) [
      | inl refused ↦ inl (same ∙ refused)
      | inr kept ↦ inr (same ∙ kept)
    ]

-- the same of texts
module _ (one : OneWritten) (db : List Metadata) where
  pub sign_alike : (hint other : Option Id) (t : List ℕ) (a b : Result Reading ParseError) →
      ((w : WrittenNumber) → IsWritten t (Ok w) → is_told_by_sign db w ≡ true) → ReadsByLibrary db hint t a → ReadsByLibrary db other t b → a ≡ b
  sign_alike hint other t a b told (Readings.refused e h) g = sym (read_if_refused one db other t e b h g)
  sign_alike hint other t a b told (Readings.written w h) g =
      read-told db (hinted db hint) (hinted db other) w (told w h) ∙ sym (read_if_written one db other t w b h g)

  pub sign_refused : (hint : Option Id) (t : List ℕ) (w : WrittenNumber) (a : Result Reading ParseError) → IsWritten t (Ok w) → is_told_by_sign db w ≡ false →
      hinted db hint ≡ None → ReadsByLibrary db hint t a → a ≡ Err InvalidCountryCode
  sign_refused hint t w a h untold none g =
      read_if_written one db hint t w a h g ∙ ap (λ m. reading_under db m w) none ∙ read-refused db w untold

  pub sign_again : (hint : Option Id) (t : List ℕ) (w : WrittenNumber) (a : Result Reading ParseError) → IsWritten t (Ok w) → w.has_plus ≡ true →
      is_told_by_sign db w ≡ false → ReadsByLibrary db hint t a → (a ≡ Err InvalidCountryCode) ⊎ (a ≡ reading_under db (hinted db hint) (without_sign w))
  sign_again hint t w a h plus untold g =
      let same = read_if_written one db hint t w a h g in
      elim (read-again db (hinted db hint) w plus untold) [
        | inl refused ↦ inl (same ∙ refused)
        | inr kept ↦ inr (same ∙ kept)
      ]
