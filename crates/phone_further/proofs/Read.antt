-- Examples, from what is read.
use Rattle.std.proofs.Common.{◌≡◌, ◌⊎◌, inl, inr, ℕ, List, Option, None, Some, Result, Ok, Err, IfOk, OnOk, chars, ap}
use Rattle.phone_values.specs.declared.country.Id.{Id}
use Rattle.phone_values.specs.declared.error.ParseError.{ParseError}
use Rattle.phone_values.specs.declared.error.ParseError.TheVariants.{Memory}
use Rattle.phone_values.specs.declared.reading.Reading.{Reading}
use Rattle.phone_library.specs.Readings.{ReadsByLibrary}
use Rattle.phone_records.specs.declared.loader.Metadata.{Metadata}
use Rattle.phone_read.specs.Hints.{hinted}
use Rattle.phone_read.proofs.Results.{ok_again}
use Rattle.phone_further.specs.Examples
use Rattle.phone_further.specs.Examples.{AnswersExample}
use Rattle.phone_further.specs.Invalid.{IsInvalidRead, if_invalid}

-- memory was refused
abbrev pub IsMemory : Result Reading ParseError → Type 0
IsMemory r = r ≡ Err Memory

refusal : ParseError → Result Reading ParseError → ParseError
refusal d (Ok n) = d
refusal d (Err e) = e

memory_alone : (e : ParseError) → IsMemory (Err e) → e ≡ Memory
unfolding refusal
memory_alone e h = ap (refusal e) h

module _ (db : List Metadata) (hint : Option Id) (text : List ℕ) where
  pub example_so : (n : Reading) → IsMemory (Ok n) ⊎ ReadsByLibrary db hint (chars text) (Ok n) →
      AnswersExample db hint (Some text) (Ok (Some n))
  example_so n (inl e) = cc
  example_so n (inr h) = inr (Examples.read text n h)

  pub refusal_so : (e : ParseError) → IsMemory (Err e) ⊎ ReadsByLibrary db hint (chars text) (Err e) →
      AnswersExample db hint (Some text) (Err e)
  refusal_so e (inl f) = inl (ap (λ d. Err d) (memory_alone e f))
  refusal_so e (inr h) = inr (Examples.refused text e h)

module _ (db : List Metadata) (m : Option Metadata) (t : List ℕ) where
  -- under each region whose territory this is
  abbrev pub ReadsUnder : Result Reading ParseError → Type 0
  ReadsUnder r = (region : Id) → m ≡ hinted db (Some region) → ReadsByLibrary db (Some region) t r

  abbrev pub IsInvalidUnder : Option Reading → Type 0
  IsInvalidUnder found = (region : Id) → m ≡ hinted db (Some region) → IsInvalidRead db region t found

  pub invalid_so : {E : Type 0} (n : Reading) (x : Result (Option Reading) E) → IsMemory (Ok n) ⊎ ReadsUnder (Ok n) →
      IfOk x (λ found. found ≡ if_invalid db (Ok n)) → IfOk x IsInvalidUnder
  invalid_so n x (inl e) f = cc
  invalid_so n x (inr h) f = ok_again x _ _ (λ found e region is. (Ok n, h region is, e)) f

  pub none_so : {E : Type 0} (e : ParseError) (x : Result (Option Reading) E) → IsMemory (Err e) ⊎ ReadsUnder (Err e) →
      IfOk x (λ found. found ≡ None) → OnOk x (¬ (e ≡ Memory)) → IfOk x IsInvalidUnder
  none_so e (Ok found) (inl f) g no_memory = absurd (no_memory (memory_alone e f))
  none_so e (Ok found) (inr h) g no_memory = λ region is. (Err e, h region is, g)
  none_so e (Err d) h g no_memory = g
