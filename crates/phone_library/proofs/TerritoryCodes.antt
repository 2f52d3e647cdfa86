-- The code of a hint's territory, cut off the digits or not.
use Rattle.std.proofs.Common.{◌≡◌, ℕ, Bool, true, false, if◌then◌else◌, List, Option, None, Some, unwrap_or, ap, sym, ◌∙◌}
use Rattle.phone_values.specs.declared.country.Source.TheVariants.{Number, Default}
use Rattle.phone_library.specs.LibraryCodes.{behind_code, code_by_territory, has_code}
use Rattle.phone_read.specs.Hints.{Coded}
use Rattle.phone_records.specs.declared.loader.Metadata.{Metadata}
use Rattle.phone_territory.specs.Records.{code_of}

-- by what is left once it is cut off
abbrev pub by_rest : ℕ → List ℕ → Option (List ℕ) → Coded
by_rest code digits (Some rest) = record { source = Number; value = code; rest = rest }
by_rest code digits None = record { source = Default; value = code; rest = digits }

pub code_by_rest : (m : Metadata) (digits : List ℕ) (code : ℕ) (o : Option (List ℕ)) → m.country_code ≡ Some code →
    o ≡ (if has_code m digits then Some (behind_code m digits) else None) → by_rest code digits o ≡ code_by_territory m digits
code_by_rest m digits code o given e = ap (by_rest code digits) e ∙ at (has_code m digits)
  where
    own : code ≡ code_of m
    own = sym (ap (λ c. unwrap_or c 0) given)

    cut : Coded
    cut = record { source = Number; value = code_of m; rest = behind_code m digits }

    kept : Coded
    kept = record { source = Default; value = code_of m; rest = digits }

    at : (b : Bool) → by_rest code digits (if b then Some (behind_code m digits) else None) ≡ (if b then cut else kept)
    at true = ap (λ v. by_rest v digits (Some (behind_code m digits))) own
    at false = ap (λ v. by_rest v digits None) own
