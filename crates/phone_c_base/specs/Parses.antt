-- What a text is read as, told in plain numbers and a buffer.
use Rattle.std.specs.Prelude.{◌≡◌, ℕ, List, Option, Ok, Err, chars}
use Rattle.phone_values.specs.Refusals.{refusal_number}
use Rattle.phone_values.specs.declared.country.Id.{Id}
use Rattle.phone_values.specs.declared.error.ParseError.{ParseError}
use Rattle.phone_records.specs.declared.loader.Metadata.{Metadata}
use Rattle.phone_engine.specs.Readings.{ReadsBy}
use Rattle.phone_values.specs.declared.rules.Rules.{Rules}
use Rattle.phone_values.specs.declared.reading.Reading.{Reading}
use Rattle.phone_c_base.specs.Buffers.{IsTooLong, IsWritten}
use Rattle.phone_c_base.specs.Numbers.{IsNumber, texts_of}
use Rattle.phone_c_base.specs.declared.number.Number as plain

-- by rules and under a hint the text is read as a number, the plain numbers are that number, and
-- its texts are written
pub record IsParsed (rules : Rules) (db : List Metadata) (hint : Option Id) (text : List ℕ)
    (x : plain.Number) (before after : List ℕ) (wrote : ℕ) : Type 0 where
  pub number : Reading
  pub reads : ReadsBy rules db hint (chars text) (Ok number)
  pub plain : IsNumber x after number
  pub texts : IsWritten (texts_of number) before after wrote

-- so the text is read as a number whose texts are too long
pub record IsParsedTooLong (rules : Rules) (db : List Metadata) (hint : Option Id) (text : List ℕ)
    (before after : List ℕ) (wrote : ℕ) : Type 0 where
  pub number : Reading
  pub reads : ReadsBy rules db hint (chars text) (Ok number)
  pub texts : IsTooLong (texts_of number) before after wrote

-- so the text is refused, and the status is the number of the refusal
abbrev pub IsRefusedAs : Rules → List Metadata → Option Id → (text : List ℕ) → ℕ → Type 0
IsRefusedAs rules db hint text status =
    (e : ParseError) × ReadsBy rules db hint (chars text) (Err e) × (status ≡ refusal_number e)
