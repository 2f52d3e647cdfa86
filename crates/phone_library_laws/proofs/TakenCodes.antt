-- What holds of a calling code that is found holds of the code that is taken.
use Rattle.std.proofs.Common.{◌≡◌, ℕ, ◌||◌, nat_le, Bool, true, false, if◌then◌else◌, List, [], ◌∷◌, length, drop, Option, None, Some, Result, Ok, Err, IfOk, refl, ap, ◌∙◌}
use Rattle.std.proofs.lemmas.Bool.{cond_both, or_left, or_right}
use Rattle.std.specs.Fmt.{decimal}
use Rattle.std.specs.List.{list_any}
use Rattle.std.specs.Option.{option_map_or, option_or}
use Rattle.phone_values.specs.declared.country.Source.{Source}
use Rattle.phone_values.specs.declared.country.Source.TheVariants.{Plus, Idd, Number, Default}
use Rattle.phone_values.specs.declared.error.ParseError.{ParseError}
use Rattle.phone_values.specs.declared.error.ParseError.TheVariants as refusal
use Rattle.phone_library.specs.LibraryCodes.{code_after_sign, code_by_hint, code_in, cut_off, or_by_hint}
use Rattle.phone_plans.specs.CodeLookUps.{shortest}
use Rattle.phone_plans.specs.Records.{last_where}
use Rattle.phone_read.specs.CallingCodes.{code_by_front}
use Rattle.phone_read.specs.Hints.{Coded}
use Rattle.phone_records.specs.declared.loader.Metadata.{Metadata}

-- what passes one test and is the last to pass another is among all
pub last_any : {X : Type 0} (passes q : X → Bool) (xs : List X) (x : X) → last_where passes xs ≡ Some x → q x ≡ true → list_any q xs ≡ true
last_any {X = X} passes q [] x e h = cc
last_any {X = X} passes q (y ∷ ys) x e h = at (λ f. last_any passes q ys x f h) (last_where passes ys) refl (passes y) e
  where
    at : (last_where passes ys ≡ Some x → list_any q ys ≡ true) → (o : Option X) → last_where passes ys ≡ o → (b : Bool) → option_or o (if b then Some y else None) ≡ Some x → (q y || list_any q ys) ≡ true
    at again (Some z) f b g = or_right (q y) (list_any q ys) (again (f ∙ g))
    at again None f true g = let same : y ≡ x = cc in or_left (q y) (list_any q ys) (ap q same ∙ h)
    at again None f false g = cc

module _ (db : List Metadata) (P : Coded → Type 0) where
  -- after a sign the shortest listed code is found
  pub IfOk-code_after_sign : (source : Source) (digits : List ℕ) →
      ((code : ℕ) → shortest db digits ≡ Some code → P (record { source = source; value = code; rest = drop (length (decimal code)) digits })) →
      IfOk (code_after_sign db source digits) P
  IfOk-code_after_sign source digits each =
      cond_both (nat_le (length digits) 2) (Err refusal.TooShortAfterIdd) (code_by_front db source digits) (λ r. IfOk r P) (λ _. tt) (λ _. at (shortest db digits) refl)
    where
      at : (o : Option ℕ) → shortest db digits ≡ o →
          IfOk (option_map_or (λ code. Ok (record { source = source; value = code; rest = drop (length (decimal code)) digits })) o (Err refusal.InvalidCountryCode)) P
      at None e = tt
      at (Some code) e = each code e

  cut : (source : Source) (value : ℕ) (rest : List ℕ) → P (record { source = source; value = value; rest = rest }) →
      IfOk (cut_off (Ok (record { source = source; value = value; rest = rest }))) P
  cut Default value rest h = tt
  cut Plus value rest h = h
  cut Idd value rest h = h
  cut Number value rest h = h

  IfOk-cut_off : (r : Result Coded ParseError) → IfOk r P → IfOk (cut_off r) P
  IfOk-cut_off (Err e) h = tt
  IfOk-cut_off (Ok c) h = cut c.source c.value c.rest h

  IfOk-or_by_hint : (o : Option Metadata) (digits : List ℕ) (r : Result Coded ParseError) → IfOk r P → IfOk (code_by_hint db o digits) P →
      IfOk (or_by_hint db o digits r) P
  IfOk-or_by_hint o digits (Err refusal.InvalidCountryCode) h by_hint = IfOk-cut_off (code_by_hint db o digits) by_hint
  IfOk-or_by_hint o digits (Err e) h by_hint = tt
  IfOk-or_by_hint o digits (Ok c) h by_hint = h

  -- the code that is taken is one of those two
  pub IfOk-code_in : (o : Option Metadata) (has_plus : Bool) (digits : List ℕ) → IfOk (code_after_sign db Plus digits) P → IfOk (code_by_hint db o digits) P →
      IfOk (code_in db o has_plus digits) P
  IfOk-code_in o true digits signed by_hint = IfOk-or_by_hint o digits (code_after_sign db Plus digits) signed by_hint
  IfOk-code_in o false digits signed by_hint = by_hint
