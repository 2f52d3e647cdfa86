-- The example of a kind that is given by its number, of whatever region.
use Rattle.std.specs.Prelude.{◌≡◌, ℕ, List, None, Some, Ok, Err, IsSomeAnd}
use Rattle.phone_values.specs.Refusals.{refusal_number}
use Rattle.phone_values.specs.declared.error.ParseError.{ParseError}
use Rattle.phone_values.specs.declared.reading.Reading.{Reading}
use Rattle.phone_records.specs.declared.loader.Metadata.{Metadata}
use Rattle.phone_further.specs.Lowest.{IsAnyExample}
use Rattle.phone_c_base.specs.Kinds.{kind_of}

-- the number is a kind's, and this is what the example of it is read as
abbrev pub IsOfKind : List Metadata → (kind : ℕ) → Reading → Type 0
IsOfKind db kind n = IsSomeAnd (kind_of kind) (λ k. IsAnyExample db k (Ok (Some n)))

-- the number is a kind's of which no example is given
abbrev pub HasNoneOfKind : List Metadata → (kind : ℕ) → Type 0
HasNoneOfKind db kind = IsSomeAnd (kind_of kind) (λ k. IsAnyExample db k (Ok None))

-- the number is a kind's whose example is refused, and the status is the number of the refusal
abbrev pub IsKindRefused : List Metadata → (kind status : ℕ) → Type 0
IsKindRefused db kind status = IsSomeAnd (kind_of kind) (λ k. (e : ParseError) ×
    IsAnyExample db k (Err e) × (status ≡ refusal_number e))
