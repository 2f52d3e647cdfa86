-- What is answered without asking for memory, where the calling code of a number is looked for.
use Rattle.std.specs.Prelude.{◌≡◌, true, List, Option, None, Result, Err, IfErr}
use Rattle.std.specs.Cow.{IsBorrowedStr}
use Rattle.phone_values.specs.declared.country.Id.{Id}
use Rattle.phone_values.specs.declared.error.ParseError.{ParseError}
use Rattle.phone_values.specs.declared.error.ParseError.TheVariants.{Memory}
use Rattle.phone_records.specs.declared.loader.Metadata.{Metadata}
use Rattle.phone_parts.specs.Parts.{parts_of}
use Rattle.phone_parts.specs.declared.number.Number.{Number as Parts}
use Rattle.phone_read.specs.Dialling.{is_bare, is_plain}
use Rattle.phone_read.specs.CallingCodes.{code_of, international_prefix_of}
use Rattle.phone_read.specs.Hints.{Coded, hinted}

-- of a number n under a hint
pub record AnswersWithoutMemory {T : Type 0} (db : List Metadata) (hint : Option Id) (n : Parts)
    (r : Result T ParseError) : Type 0 where
  -- each other refusal, where the hint has no international prefix, and the parts are ASCII digits
  -- after the leading plus signs
  pub refusals : international_prefix_of (hinted db hint) ≡ None →
      is_bare (parts_of n).national (parts_of n).prefix (parts_of n).extension ≡ true →
      IfErr (code_of db hint (parts_of n).national (parts_of n).prefix) (λ e. r ≡ Err e)
  -- all, where there is no territory of the hint, and the national part is lent as well
  pub answers : hinted db hint ≡ None → IsBorrowedStr n.national →
      is_plain (parts_of n).national (parts_of n).prefix (parts_of n).extension ≡ true →
      ¬ (r ≡ Err Memory)

-- of a number of which is known how it was dialled, under the hint's territory m, where its code is
-- told so
pub record AnswersAtOnce {T : Type 0} (m : Option Metadata) (told : Result Coded ParseError)
    (r : Result T ParseError) : Type 0 where
  -- each refusal that is told
  pub refusals : IfErr told (λ e. r ≡ Err e)
  -- and without a territory there is no other
  pub no_other : m ≡ None → IfErr r (λ e. told ≡ Err e)
