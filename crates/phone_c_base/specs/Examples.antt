-- What the example number of a region and a kind is, told in plain numbers and a buffer.
use Rattle.std.specs.Prelude.{◌≡◌, ℕ, List, Option, None, Some, Result, Ok, Err, IsSomeAnd, chars}
use Rattle.phone_values.specs.Ids.{id_of}
use Rattle.phone_values.specs.Refusals.{refusal_number}
use Rattle.phone_values.specs.declared.country.Id.{Id}
use Rattle.phone_values.specs.declared.error.ParseError.{ParseError}
use Rattle.phone_values.specs.declared.reading.Reading.{Reading}
use Rattle.phone_records.specs.declared.loader.Metadata.{Metadata}
use Rattle.phone_engine.specs.Readings.{ReadsBy}
use Rattle.phone_values.specs.declared.rules.Rules.{Rules}
use Rattle.phone_engine.specs.Listed.{example_text}
use Rattle.phone_c_base.specs.Buffers.{IsTooLong, IsWritten}
use Rattle.phone_c_base.specs.Kinds.{kind_of}
use Rattle.phone_c_base.specs.Numbers.{IsNumber, texts_of}
use Rattle.phone_c_base.specs.declared.number.Number as plain

-- the bytes are a region's id and the number a kind's, and the table gives this example of them
abbrev pub HasExample : List Metadata → (region : List ℕ) → ℕ → (Id → Option (List ℕ) → Type 0) →
    Type 0
HasExample db region kind IsSo = IsSomeAnd (id_of region)
    (λ id. IsSomeAnd (kind_of kind) (λ k. IsSo id (example_text db id k)))

-- the table has no example of them
abbrev pub HasNoExample : List Metadata → (region : List ℕ) → ℕ → Type 0
HasNoExample db region kind = HasExample db region kind (λ id text. text ≡ None)

-- by rules the example is read so, with the region as hint
abbrev pub ExampleReads : Rules → List Metadata → (region : List ℕ) → ℕ →
    Result Reading ParseError → Type 0
ExampleReads rules db region kind r = HasExample db region kind
    (λ id text. IsSomeAnd text (λ t. ReadsBy rules db (Some id) (chars t) r))

-- by rules it is read as a number, the plain numbers are that number, and its texts are written
pub record IsExample (rules : Rules) (db : List Metadata) (region : List ℕ) (kind : ℕ)
    (x : plain.Number) (before after : List ℕ) (wrote : ℕ) : Type 0 where
  pub number : Reading
  pub reads : ExampleReads rules db region kind (Ok number)
  pub plain : IsNumber x after number
  pub texts : IsWritten (texts_of number) before after wrote

-- by rules it is read as a number whose texts are too long
pub record IsExampleTooLong (rules : Rules) (db : List Metadata) (region : List ℕ) (kind : ℕ)
    (before after : List ℕ) (wrote : ℕ) : Type 0 where
  pub number : Reading
  pub reads : ExampleReads rules db region kind (Ok number)
  pub texts : IsTooLong (texts_of number) before after wrote

-- by rules it is refused, and the status is the number of the refusal
abbrev pub IsExampleRefused : Rules → List Metadata → (region : List ℕ) → ℕ → ℕ → Type 0
IsExampleRefused rules db region kind status = (e : ParseError) ×
    ExampleReads rules db region kind (Err e) × (status ≡ refusal_number e)
