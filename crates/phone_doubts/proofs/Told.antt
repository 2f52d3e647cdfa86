-- What a text is read as decides whether it is a valid number, since it has one reading.
use Rattle.std.proofs.Common.{◌≡◌, ℕ, Bool, true, false, if◌then◌else◌, List, Option, None, Some}
use Rattle.std.proofs.Common.{Result, Ok, Err, IfOk, MatchOption, inl, inr, ◌⊎◌, refl, sym, subst}
use Rattle.std.proofs.Common.{◌∙◌, true≢false}
use Rattle.phone_values.specs.declared.country.Id.{Id}
use Rattle.phone_values.specs.declared.error.ParseError.{ParseError}
use Rattle.phone_values.specs.declared.error.ParseError.TheVariants.{Memory}
use Rattle.phone_records.specs.declared.loader.Metadata.{Metadata}
use Rattle.phone_engine.proofs.OneReading.{reading_same}
use Rattle.phone_engine.specs.Facts.{is_valid_by}
use Rattle.phone_engine.specs.Readings.{ReadsBy}
use Rattle.phone_values.specs.declared.rules.Rules.{Rules}
use Rattle.phone_values.specs.declared.reading.Reading.{Reading}
use Rattle.phone_doubts.specs.Valid.{IsValidText}

module _ (rules : Rules) (db : List Metadata) (hint : Option Id) (t : List ℕ) where
  -- the valid number that the text is read as; none where it isn't read as one
  abbrev pub Told : Option Reading → Type 0
  Told told = MatchOption told ((n : Reading) → ¬ (IsValidText rules db hint t n)) (λ n. IsValidText rules db hint t n)

  told_refused : (e : ParseError) → ReadsBy rules db hint t (Err e) → Told None
  told_refused e reads n v = let same : Err e ≡ Ok n = reading_same rules db hint t (Err e) (Ok n) reads v.read in cc

  pub read_number : (x : Result Reading ParseError) (m : Reading) → x ≡ Ok m → (x ≡ Err Memory) ⊎ ReadsBy rules db hint t x → ReadsBy rules db hint t (Ok m)
  read_number x m is (inl e) = let bad : Ok m ≡ Err Memory = sym is ∙ e in cc
  read_number x m is (inr reads) = subst (λ y. ReadsBy rules db hint t y) is reads

  read_error : (x : Result Reading ParseError) (e : ParseError) → x ≡ Err e → ¬ (e ≡ Memory) →
      (x ≡ Err Memory) ⊎ ReadsBy rules db hint t x → ReadsBy rules db hint t (Err e)
  read_error x e is other (inl f) = absurd (other (let same : Err e ≡ Err Memory = sym is ∙ f in cc))
  read_error x e is other (inr reads) = subst (λ y. ReadsBy rules db hint t y) is reads

  pub if_unread : {E : Type 0} (x : Result Reading ParseError) (e : ParseError) → x ≡ Err e →
      (x ≡ Err Memory) ⊎ ReadsBy rules db hint t x → (r : Result (Option Reading) E) →
      IfOk r (λ told. (told ≡ None) × ¬ (e ≡ Memory)) → IfOk r (λ told. Told told)
  if_unread x e is h (Ok told) k = subst (λ (o : Option Reading). Told o) (sym k.0) (told_refused e (read_error x e is k.1 h))
  if_unread x e is h (Err f) k = k

  pub same_number : (m n : Reading) → ReadsBy rules db hint t (Ok m) → IsValidText rules db hint t n → m ≡ n
  same_number m n reads v = let same : Ok m ≡ Ok n = reading_same rules db hint t (Ok m) (Ok n) reads v.read in cc

  told_invalid : (m : Reading) → ReadsBy rules db hint t (Ok m) → is_valid_by rules db m ≡ false → Told None
  told_invalid m reads e n v = true≢false (sym v.valid ∙ subst (λ k. is_valid_by rules db k ≡ false) (same_number m n reads v) e)

  told_from : (m : Reading) → ReadsBy rules db hint t (Ok m) → (b : Bool) → is_valid_by rules db m ≡ b → Told (if b then Some m else None)
  told_from m reads true e = record { read = reads; valid = e }
  told_from m reads false e = told_invalid m reads e

  told_number : (m : Reading) → ReadsBy rules db hint t (Ok m) → (told : Option Reading) → told ≡ (if is_valid_by rules db m then Some m else None) → Told told
  told_number m reads told e = subst (λ (o : Option Reading). Told o) (sym e) (told_from m reads (is_valid_by rules db m) refl)

  pub if_told : {E : Type 0} (m : Reading) → ReadsBy rules db hint t (Ok m) → (r : Result (Option Reading) E) →
      IfOk r (λ told. told ≡ (if is_valid_by rules db m then Some m else None)) → IfOk r (λ told. Told told)
  if_told m reads (Ok told) e = told_number m reads told e
  if_told m reads (Err e) h = h

  -- two valid numbers of one text are one
  pub valid_same : (m n : Reading) → IsValidText rules db hint t m → IsValidText rules db hint t n → m ≡ n
  valid_same m n v w = same_number m n v.read w

  -- a valid number that is told, and none
  pub told_some : (told : Option Reading) (n : Reading) → told ≡ Some n → Told told → IsValidText rules db hint t n
  told_some told n is h = subst (λ (o : Option Reading). Told o) is h

  pub told_none : (told : Option Reading) → told ≡ None → Told told → (n : Reading) → ¬ (IsValidText rules db hint t n)
  told_none told is h = subst (λ (o : Option Reading). Told o) is h
