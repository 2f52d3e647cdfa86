-- What the small and capital `x` of a number announce: an extension, or a number of its own. As
-- libphonenumber asks it of a valid number in a text. Texts are lists of characters.
use Rattle.std.specs.Prelude.{◌≡◌, ℕ, Bool, true, false, if◌then◌else◌, List, [], ◌∷◌}
use Rattle.std.specs.Prelude.{Option, Some, Ok}
use Rattle.std.specs.Prelude.{unwrap_or}
use Rattle.std.specs.List.{AllByRecursion}
use Rattle.std.specs.Option.{option_and_then}
use Rattle.phone_chars.specs.Characters.{is_one_of}
use Rattle.phone_library.specs.Readings.{ReadsByLibrary}
use Rattle.phone_plans.specs.CodeLookUps.{first_of, territories}
use Rattle.phone_questions.specs.Letters.{digits_only}
use Rattle.phone_records.specs.declared.loader.Metadata.{Metadata}
use Rattle.phone_values.specs.Ids.{id_of}
use Rattle.phone_values.specs.declared.country.Id.{Id}
use Rattle.phone_values.specs.declared.reading.Reading.{Reading}

-- the small or the capital `x`
abbrev pub is_x : ℕ → Bool
is_x c = is_one_of (88 ∷ 120 ∷ []) c

-- what follows each `x` but one at the end, and whether that begins with another `x`; this one is
-- then passed
abbrev pub announced : List ℕ → List (Bool × List ℕ)
announced [] = []
announced (c ∷ []) = []
announced (c ∷ d ∷ cs) =
    if is_x c
    then (if is_x d then (true, d ∷ cs) ∷ announced cs else (false, d ∷ cs) ∷ announced (d ∷ cs))
    else announced (d ∷ cs)

-- the region of the main territory of a calling code; none where that is no region
abbrev pub main_region : List Metadata → ℕ → Option Id
main_region db code =
    option_and_then (λ (m : Metadata). option_and_then id_of m.id) (first_of (territories code db))

-- a text is the same number in the main region of its code: it is read there with the same code,
-- national number and extension
pub record IsSameNumber (db : List Metadata) (n : Reading) (t : List ℕ) : Type 0 where
  pub region : Id
  pub number : Reading
  pub main : main_region db n.code.value ≡ Some region
  pub read : ReadsByLibrary db (Some region) t (Ok number)
  pub code : number.code.value ≡ n.code.value
  pub national : number.national ≡ n.national
  pub extension : number.extension ≡ n.extension

-- what two `x` announce is the number itself, what one announces has the digits of its extension
abbrev pub IsGood : List Metadata → Reading → Bool → List ℕ → Type 0
IsGood db n true t = IsSameNumber db n t
IsGood db n false t = digits_only t ≡ unwrap_or n.extension []

-- so it is with each `x`
abbrev pub HasGoodMarks : List Metadata → Reading → List ℕ → Type 0
HasGoodMarks db n t = AllByRecursion (λ (m : Bool × List ℕ). IsGood db n m.0 m.1) (announced t)
