-- The answer for a kind, by what the lowest calling code has that has something.
use Rattle.std.proofs.Common.{◌≡◌, ◌⊎◌, inl, inr, ℕ, List, Option, None, Some, Result, Err, subst}
use Rattle.phone_values.specs.declared.country.Id.{Id}
use Rattle.phone_values.specs.declared.error.ParseError.{ParseError}
use Rattle.phone_values.specs.declared.error.ParseError.TheVariants.{Memory}
use Rattle.phone_values.specs.declared.kind.«Type».{«Type»}
use Rattle.phone_values.specs.declared.reading.Reading.{Reading}
use Rattle.phone_records.specs.declared.loader.Metadata.{Metadata}
use Rattle.phone_further.specs.Examples
use Rattle.phone_further.specs.Examples.{AnswersExample, IsExample}
use Rattle.phone_further.specs.Lowest
use Rattle.phone_further.specs.Lowest.{AnswersAny, IsLowest, example_of_code, example_of_regions}

module _ (db : List Metadata) (k : «Type») (r : Result (Option Reading) ParseError) where
  region_by : (region : Id) (text : List ℕ) → IsLowest (example_of_regions db k) (Some (region, text)) →
      AnswersExample db (Some region) (Some text) r → AnswersAny db k r
  region_by region text lowest (inl e) = inl e
  region_by region text lowest (inr h) = inr (Lowest.of_region region text lowest h)

  -- the example of a region
  pub region_so : (found : Option (Id × List ℕ)) (region : Id) (text : List ℕ) → IsLowest (example_of_regions db k) found →
      found ≡ Some (region, text) → AnswersExample db (Some region) (Some text) r → AnswersAny db k r
  region_so found region text lowest e h = region_by region text (subst (IsLowest (example_of_regions db k)) e lowest) h

  -- the example of a code that serves no region
  abbrev pub IsOfCode : Type 0
  IsOfCode = (r ≡ Err Memory) ⊎ ((text : Option (List ℕ)) × IsLowest (example_of_code db k) text × IsExample db None text r)

  code_by : IsLowest (example_of_regions db k) None → IsOfCode → AnswersAny db k r
  code_by no_region (inl e) = inl e
  code_by no_region (inr (text, lowest, h)) = inr (Lowest.of_code text no_region lowest h)

  pub code_so : (found : Option (Id × List ℕ)) → IsLowest (example_of_regions db k) found → found ≡ None → IsOfCode → AnswersAny db k r
  code_so found lowest e h = code_by (subst (IsLowest (example_of_regions db k)) e lowest) h

  read_by : (text : Option (List ℕ)) → IsLowest (example_of_code db k) text → AnswersExample db None text r → IsOfCode
  read_by text lowest (inl e) = inl e
  read_by text lowest (inr h) = inr (text, lowest, h)

  pub read_so : (text found : Option (List ℕ)) → IsLowest (example_of_code db k) found → found ≡ text → AnswersExample db None text r → IsOfCode
  read_so text found lowest e h = read_by text (subst (IsLowest (example_of_code db k)) e lowest) h
