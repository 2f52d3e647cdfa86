-- Examples of numbers that a database gives: as libphonenumber tells them.
use Rattle.std.specs.Prelude.{◌≡◌, ◌⊎◌, ℕ, if◌then◌else◌, List, [], ◌∷◌, ◌++◌, chars, codes}
use Rattle.std.specs.Prelude.{map, Option, None, Some, option_map, Result, Ok, Err}
use Rattle.std.specs.Fmt.{decimal}
use Rattle.std.specs.Option.{option_and_then}
use Rattle.std.specs.Str.{bytes_eq}
use Rattle.phone_values.specs.declared.country.Id.{Id}
use Rattle.phone_values.specs.declared.error.ParseError.{ParseError}
use Rattle.phone_values.specs.declared.error.ParseError.TheVariants.{Memory}
use Rattle.phone_values.specs.declared.kind.«Type».{«Type»}
use Rattle.phone_values.specs.declared.kind.«Type».TheVariants as kind
use Rattle.phone_values.specs.declared.reading.Reading.{Reading}
use Rattle.phone_library.specs.Readings.{ReadsByLibrary}
use Rattle.phone_plans.specs.CodeLookUps.{first_of, territories}
use Rattle.phone_records.specs.Missing.{first_given}
use Rattle.phone_records.specs.declared.loader.Descriptor.{Descriptor}
use Rattle.phone_records.specs.declared.loader.Metadata.{Metadata}
use Rattle.phone_territory.specs.Kinds.{descriptor_for, kinds_of}
use Rattle.phone_territory.specs.Records as territory

-- the example that a territory gives of a kind
abbrev pub example_in : Metadata → «Type» → Option (List ℕ)
example_in m k = option_and_then (λ (d : Descriptor). d.example) (descriptor_for k (kinds_of m))

-- the first example that a territory gives of these kinds
abbrev pub first_example : Metadata → List «Type» → Option (List ℕ)
first_example m kinds = first_given (map (example_in m) kinds)

-- the kinds of which a code that serves no region may have an example, in their order
abbrev pub worldwide_kinds : List «Type»
worldwide_kinds = kind.Mobile ∷ kind.TollFree ∷ kind.SharedCost ∷ kind.Voip ∷ kind.Voicemail ∷
    kind.Uan ∷ kind.PremiumRate ∷ []

-- a territory, where it is no region's
abbrev pub if_worldwide : Metadata → Option Metadata
if_worldwide m = if bytes_eq (territory.id_of m) (codes "001") then Some m else None

-- the first territory of a code, where that serves no region
abbrev pub worldwide_of : List Metadata → ℕ → Option Metadata
worldwide_of db code = option_and_then if_worldwide (first_of (territories code db))

-- digits behind a plus sign and a calling code
abbrev pub coded : ℕ → List ℕ → List ℕ
coded code digits = 43 ∷ (decimal code ++ digits)

-- the first example of these kinds of a code that serves no region, behind plus sign and code
abbrev pub code_example : List Metadata → List «Type» → ℕ → Option (List ℕ)
code_example db kinds code = option_map (coded code)
    (option_and_then (λ m. first_example m kinds) (worldwide_of db code))

-- an example, as it is read under a hint: nothing where there is none, else its number or its
-- refusal
pub data IsExample (db : List Metadata) (hint : Option Id) : Option (List ℕ) →
    Result (Option Reading) ParseError → Type 0 where
  none : IsExample db hint None (Ok None)
  read : (text : List ℕ) (n : Reading) → ReadsByLibrary db hint (chars text) (Ok n) →
      IsExample db hint (Some text) (Ok (Some n))
  refused : (text : List ℕ) (e : ParseError) → ReadsByLibrary db hint (chars text) (Err e) →
      IsExample db hint (Some text) (Err e)

-- the answer to it: that, or want of memory
abbrev pub AnswersExample : List Metadata → Option Id → Option (List ℕ) →
    Result (Option Reading) ParseError → Type 0
AnswersExample db hint text r = (r ≡ Err Memory) ⊎ IsExample db hint text r
