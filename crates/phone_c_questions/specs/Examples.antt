-- Examples of numbers that a table gives, as plain numbers, with their texts in a buffer.
use Rattle.std.specs.Prelude.{◌≡◌, ℕ, List, Option, None, Some, Ok, Err, IsSomeAnd}
use Rattle.phone_values.specs.Ids.{id_of}
use Rattle.phone_values.specs.Refusals.{refusal_number}
use Rattle.phone_values.specs.declared.error.ParseError.{ParseError}
use Rattle.phone_values.specs.declared.reading.Reading.{Reading}
use Rattle.phone_records.specs.declared.loader.Metadata.{Metadata}
use Rattle.phone_further.specs.Examples.{IsExample, code_example, worldwide_kinds}
use Rattle.phone_further.specs.Invalid.{IsInvalidExample}
use Rattle.phone_c_base.specs.Buffers.{IsTooLong, IsWritten}
use Rattle.phone_c_base.specs.Numbers.{IsNumber, texts_of}
use Rattle.phone_c_base.specs.declared.number.Number as plain

-- the plain numbers are such a number, and its texts are written
pub record IsNumberWritten (IsSo : Reading → Type 0) (x : plain.Number) (before after : List ℕ)
    (wrote : ℕ) : Type 0 where
  pub number : Reading
  pub is_so : IsSo number
  pub plain : IsNumber x after number
  pub texts : IsWritten (texts_of number) before after wrote

-- the texts of such a number are too long
pub record IsNumberTooLong (IsSo : Reading → Type 0) (before after : List ℕ) (wrote : ℕ) :
    Type 0 where
  pub number : Reading
  pub is_so : IsSo number
  pub texts : IsTooLong (texts_of number) before after wrote

-- the text of the example of a calling code that serves no region; none where there is none
abbrev pub code_text : List Metadata → ℕ → Option (List ℕ)
code_text db code = code_example db worldwide_kinds code

-- the number is what this example is read as
abbrev pub IsOfCode : List Metadata → ℕ → Reading → Type 0
IsOfCode db code n = IsExample db None (code_text db code) (Ok (Some n))

-- this example is refused, and the status is the number of the refusal
abbrev pub IsOfCodeRefused : List Metadata → (code status : ℕ) → Type 0
IsOfCodeRefused db code status = (e : ParseError) ×
    IsExample db None (code_text db code) (Err e) × (status ≡ refusal_number e)

-- the bytes are a region's id, and this is the number of it that isn't valid
abbrev pub IsInvalidOf : List Metadata → (region : List ℕ) → Reading → Type 0
IsInvalidOf db region n = IsSomeAnd (id_of region) (λ id. IsInvalidExample db id (Some n))

-- the bytes are a region's id, of which there is no such number
abbrev pub HasNoInvalid : List Metadata → (region : List ℕ) → Type 0
HasNoInvalid db region = IsSomeAnd (id_of region) (λ id. IsInvalidExample db id None)
