-- Digits that a territory strips nothing off, by libphonenumber's rules, and codes that are told.
use Rattle.std.proofs.Common.{◌≡◌, ◌&&◌, not, ℕ, Bool, true, false, if◌then◌else◌, List, length}
use Rattle.std.proofs.Common.{Option, Result, Ok, Some, refl, ap, sym, subst, ◌∙◌}
use Rattle.phone_values.specs.declared.country.Id.{Id}
use Rattle.phone_values.specs.declared.error.ParseError.{ParseError}
use Rattle.phone_library.specs.Kinds.{matches_whole}
use Rattle.phone_library.specs.Lengths.{length_in, may_be_left}
use Rattle.phone_library.specs.Stripping.{left_by_prefix, strip, stripped, untouched}
use Rattle.phone_library_laws.specs.Agreement.{IsStrippedAlike}
use Rattle.phone_read.specs.Hints.{Coded}
use Rattle.phone_records.specs.declared.loader.Metadata.{Metadata}
use Rattle.phone_read.specs.Strips.{Stripped}

one_way : {X : Type 0} (b : Bool) (x : X) → (if b then x else x) ≡ x
one_way true x = refl
one_way false x = refl

-- whose prefix leaves the digits
module _ (m : Metadata) (digits : List ℕ) (kept : left_by_prefix m digits ≡ untouched digits) where
  strip_kept : strip m digits ≡ untouched digits
  strip_kept =
      ap (λ (t : Stripped).
      if matches_whole m.general digits && not (matches_whole m.general t.national)
      then untouched digits else t) kept
      ∙ one_way (matches_whole m.general digits && not (matches_whole m.general digits))
      (untouched digits)

  pub stripped_kept : stripped (Some m) digits ≡ untouched digits
  stripped_kept =
      ap (λ (t : Stripped). if may_be_left (length_in m (length t.national)) then t
      else untouched digits) strip_kept
      ∙ one_way (may_be_left (length_in m (length digits))) (untouched digits)

same_code : (r : Result Coded ParseError) (c d : Coded) → r ≡ Ok c → r ≡ Ok d → c ≡ d
same_code r c d e f = let same : Ok c ≡ Ok d = sym e ∙ f in cc

-- what is stripped behind the code that is told
pub behind_told : (db : List Metadata) (hint : Option Id) (r : Result Coded ParseError) (c : Coded) →
    r ≡ Ok c → IsStrippedAlike db hint c → (d : Coded) → r ≡ Ok d → IsStrippedAlike db hint d
behind_told db hint r c told alike d e =
    subst (IsStrippedAlike db hint) (same_code r c d told e) alike
