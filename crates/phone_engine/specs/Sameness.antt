-- Whether two texts are one number: after libphonenumber's `isNumberMatch`, but without a guess at
-- a calling code that is missing, and an end has seven digits at least.
use Rattle.std.specs.Prelude.{ℕ, ◌==◌, ◌&&◌, ◌||◌, nat_eq, nat_le, Bool, true, false}
use Rattle.std.specs.Prelude.{if◌then◌else◌, List, length, Option, None, Some, Result, Ok, Err}
use Rattle.std.specs.Fmt.{decimal}
use Rattle.std.specs.List.{ends_with}
use Rattle.std.specs.Str.{bytes_eq}
use Rattle.phone_values.specs.declared.error.ParseError.{ParseError}
use Rattle.phone_records.specs.declared.loader.Metadata.{Metadata}
use Rattle.phone_values.specs.declared.rules.Rules.{Rules}
use Rattle.phone_engine.specs.Sides.{IsTaken}
use Rattle.phone_engine.specs.declared.sides.Side.{Side}
use Rattle.phone_engine.specs.declared.sameness.Sameness.{Sameness}
use Rattle.phone_engine.specs.declared.sameness.Sameness.TheVariants.{Exact, Number, National, End}
use Rattle.phone_engine.specs.declared.sameness.Sameness.TheVariants.{Different}

-- both extensions are absent, or of one text
abbrev pub is_one_extension : Option (List ℕ) → Option (List ℕ) → Bool
is_one_extension None None = true
is_one_extension (Some e) (Some f) = bytes_eq e f
is_one_extension _ _ = false

-- seven digits at least are an end of other digits
abbrev pub is_end : List ℕ → List ℕ → Bool
is_end end digits = nat_le 7 (length end) && ends_with nat_eq digits end

-- the digits of one value are an end of the other's
abbrev pub is_end_of_either : ℕ → ℕ → Bool
is_end_of_either x y = is_end (decimal x) (decimal y) || is_end (decimal y) (decimal x)

-- by the digits without their leading zeros
abbrev pub sameness_by_end : Side → Side → Sameness
sameness_by_end a b = if is_end_of_either a.national.value b.national.value then End else Different

-- under one code
abbrev pub sameness_under_code : Side → Side → Sameness
sameness_under_code a b =
    if (a.national.zeros == b.national.zeros) && (a.national.value == b.national.value)
    then (if is_one_extension a.extension b.extension then Exact else Number)
    else sameness_by_end a b

-- where one at least has no code, leading zeros play no part
abbrev pub sameness_without_code : Side → Side → Sameness
sameness_without_code a b =
    if a.national.value == b.national.value then National else sameness_by_end a b

-- how like two sides are, by their codes
abbrev pub sameness_by : Option ℕ → Option ℕ → Side → Side → Sameness
sameness_by (Some x) (Some y) a b = if x == y then sameness_under_code a b else Different
sameness_by _ _ a b = sameness_without_code a b

-- how like two sides are
abbrev pub sameness_of : Side → Side → Sameness
sameness_of a b = sameness_by a.code b.code a b

-- the answer to two texts: how like their sides are, or the first refusal of a text
pub data IsAnswer (rules : Rules) (db : List Metadata) (s t : List ℕ) :
    Result Sameness ParseError → Type 0 where
  of_both : (a b : Side) → IsTaken rules db s (Ok a) → IsTaken rules db t (Ok b) →
      IsAnswer rules db s t (Ok (sameness_of a b))
  first_refused : (e : ParseError) → IsTaken rules db s (Err e) → IsAnswer rules db s t (Err e)
  second_refused : (a : Side) (e : ParseError) → IsTaken rules db s (Ok a) →
      IsTaken rules db t (Err e) → IsAnswer rules db s t (Err e)
