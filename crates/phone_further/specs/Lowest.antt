-- An example of a kind, of whatever region or calling code: as libphonenumber tells it.
use Rattle.std.specs.Prelude.{◌≡◌, ◌⊎◌, ℕ, ◌<◌, ◌&&◌, nat_lt, Bool, true, false, List, [], ◌∷◌, map}
use Rattle.std.specs.Prelude.{Option, None, Some, MatchOption, is_some, option_map, Result, Err}
use Rattle.std.specs.Borrow.{Bor}
use Rattle.std.specs.List.{list_any}
use Rattle.std.specs.Option.{option_and_then, option_map_or}
use Rattle.phone_values.specs.Ids.{id_of}
use Rattle.phone_values.specs.declared.country.Id.{Id}
use Rattle.phone_values.specs.declared.error.ParseError.{ParseError}
use Rattle.phone_values.specs.declared.error.ParseError.TheVariants.{Memory}
use Rattle.phone_values.specs.declared.kind.«Type».{«Type»}
use Rattle.phone_values.specs.declared.reading.Reading.{Reading}
use Rattle.phone_plans.specs.CodeLookUps.{territories}
use Rattle.phone_plans.specs.Records.{has_code}
use Rattle.phone_records.specs.Missing.{first_given}
use Rattle.phone_records.specs.declared.loader.Metadata.{Metadata}
use Rattle.phone_territory.specs.Records.{code_of}
use Rattle.phone_further.specs.Examples.{IsExample, code_example, example_in, if_worldwide}

-- a region and a text that is lent
abbrev pub seen : Id × Bor (List ℕ) → Id × List ℕ
seen found = (found.0, found.1.now)

-- the region of a territory with the example that it gives of a kind
abbrev pub region_example : «Type» → Metadata → Option (Id × List ℕ)
region_example k m = option_and_then
    (λ region. option_map (λ text. (region, text)) (example_in m k))
    (option_and_then id_of m.id)

-- the first that a code's territories give, in their order
abbrev pub example_of_regions : List Metadata → «Type» → ℕ → Option (Id × List ℕ)
example_of_regions db k code = first_given (map (region_example k) (territories code db))

-- the same of a code that serves no region
abbrev pub example_of_code : List Metadata → «Type» → ℕ → Option (List ℕ)
example_of_code db k code = code_example db (k ∷ []) code

-- a code is lower than what was found before
abbrev pub is_lower : ℕ → Option ℕ → Bool
is_lower code low = option_map_or (λ l. nat_lt code l) low true

-- a territory gives an example, and is a region's
abbrev pub gives : «Type» → Metadata → Bool
gives k m = is_some (region_example k m)

-- a territory gives one, and is no region's
abbrev pub is_served : «Type» → Metadata → Bool
is_served k m = is_some (example_in m k) && is_some (if_worldwide m)

-- it is so, and its code has an example
abbrev pub serves : List Metadata → «Type» → Metadata → Bool
serves db k m = is_served k m && is_some (example_of_code db k (code_of m))

-- some territory of a code passes
abbrev pub some_passes : (Metadata → Bool) → ℕ → List Metadata → Bool
some_passes passes code db = list_any (λ m. has_code code m && passes m) db

-- the lowest code of which a territory passes; none where none does
abbrev pub IsLeast : (Metadata → Bool) → List Metadata → Option ℕ → Type 0
IsLeast passes db low = MatchOption low ((code : ℕ) → some_passes passes code db ≡ false)
    (λ code. (some_passes passes code db ≡ true) ×
    ((c : ℕ) → c < code → some_passes passes c db ≡ false))

-- what the lowest calling code has that has something
pub data IsLowest {X : Type 0} (of : ℕ → Option X) : Option X → Type 0 where
  none : ((code : ℕ) → code < 65536 → of code ≡ None) → IsLowest of None
  found : (code : ℕ) (x : X) → code < 65536 → ((c : ℕ) → c < code → of c ≡ None) →
      of code ≡ Some x → IsLowest of (Some x)

-- the example of a kind: that of a region of the lowest code which has one, read under the region;
-- else that of the lowest code that serves no region, read as it stands
pub data IsAnyExample (db : List Metadata) (k : «Type») (r : Result (Option Reading) ParseError) :
    Type 0 where
  of_region : (region : Id) (text : List ℕ) →
      IsLowest (example_of_regions db k) (Some (region, text)) →
      IsExample db (Some region) (Some text) r → IsAnyExample db k r
  of_code : (text : Option (List ℕ)) → IsLowest (example_of_regions db k) None →
      IsLowest (example_of_code db k) text → IsExample db None text r → IsAnyExample db k r

-- the answer for a kind: its example, or want of memory
abbrev pub AnswersAny : List Metadata → «Type» → Result (Option Reading) ParseError → Type 0
AnswersAny db k r = (r ≡ Err Memory) ⊎ IsAnyExample db k r
