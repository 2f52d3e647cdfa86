-- Which calling code a number has, and which digits follow it: what stands in the original's module
-- `parser/helper`.
use Rattle.std.specs.Prelude.{◌≡◌, ℕ, nat_le, if◌then◌else◌, List, length, drop}
use Rattle.std.specs.Prelude.{Option, None, Some, option_map, Result, Ok, Err, unwrap_or, false}
use Rattle.std.specs.Prelude.{IsSome}
use Rattle.std.specs.Cow.{cow_str_bytes}
use Rattle.std.specs.Option.{option_and_then, option_map_or}
use Rattle.std.specs.Fmt.{decimal}
use Rattle.phone_chars.specs.Norm.{norm}
use Rattle.phone_values.specs.Numbers.{number_in}
use Rattle.phone_values.specs.declared.country.Id.{Id}
use Rattle.phone_values.specs.declared.country.Source.{Source}
use Rattle.phone_values.specs.declared.country.Source.TheVariants.{Plus, Default}
use Rattle.phone_values.specs.declared.error.ParseError.{ParseError}
use Rattle.phone_values.specs.declared.error.ParseError.TheVariants.{InvalidCountryCode}
use Rattle.phone_values.specs.declared.error.ParseError.TheVariants.{MalformedInteger, TooShortNsn}
use Rattle.phone_plans.specs.CodeLookUps.{is_listed, shortest}
use Rattle.phone_records.specs.declared.loader.Metadata.{Metadata}
use Rattle.phone_parts.specs.declared.number.Number.{Number as Parts}
use Rattle.phone_read.specs.Dialling.{Dialled, dialled, found_in}
use Rattle.phone_read.specs.Lent.{KeepsLent}
use Rattle.phone_read.specs.Hints.{Coded, hinted, code_by_hint}

-- the international prefix of a territory
abbrev pub international_prefix_of : Option Metadata → Option (List ℕ)
international_prefix_of m = option_and_then (λ (m : Metadata). m.international_prefix) m

-- in an international number without a prefix from the reader: the shortest front of one to three
-- digits that is a listed code
abbrev pub code_by_front : List Metadata → Source → List ℕ → Result Coded ParseError
code_by_front db source digits =
    option_map_or (λ code. Ok (record {
      source = source;
      value = code;
      rest = drop (length (decimal code)) digits;
    })) (shortest db digits) (Err InvalidCountryCode)

-- with a prefix from the reader, as digits: its number, which is to be listed
abbrev pub code_by_prefix : List Metadata → List ℕ → List ℕ → Result Coded ParseError
code_by_prefix db prefix digits =
    option_map_or (λ code. if is_listed code db
    then Ok (record { source = Plus; value = code; rest = digits }) else Err InvalidCountryCode)
    (number_in 16 prefix) (Err MalformedInteger)

-- at most two digits are too few, whether the code is among them or not
abbrev pub with_three : List ℕ → Result Coded ParseError → Result Coded ParseError
with_three digits coded = if nat_le (length digits) 2 then Err TooShortNsn else coded

-- the code of a number that was dialled so: by the reader's prefix where there is one, by the
-- hint's territory where nothing else tells it, and else by the front of the digits
abbrev pub code_by : List Metadata → Option Metadata → Option (List ℕ) → Source → List ℕ →
    Result Coded ParseError
code_by db m (Some p) source digits = with_three digits (code_by_prefix db p digits)
code_by db m None Default digits = option_map_or (λ m. Ok (code_by_hint m digits)) m
    (Err InvalidCountryCode)
code_by db m None source digits = with_three digits (code_by_front db source digits)

-- how a national part n with the reader's prefix p is dialled under a hint
abbrev pub dialled_under : List Metadata → Option Id → List ℕ → Option (List ℕ) → Dialled
dialled_under db hint n p = dialled (found_in (international_prefix_of (hinted db hint))) n p

-- the code of a national part n with the reader's prefix p
abbrev pub code_of : List Metadata → Option Id → List ℕ → Option (List ℕ) → Result Coded ParseError
code_of db hint n p = code_by db (hinted db hint) (option_map norm p)
    (dialled_under db hint n p).source (dialled_under db hint n p).digits

-- the prefix of a number whose code is found: the reader's, normalised, else the code in decimal
abbrev pub prefix_of : Option (List ℕ) → ℕ → List ℕ
prefix_of p code = option_map_or norm p (decimal code)

-- the number r has the source and the digits of this code, one text as prefix and perhaps one as
-- extension, and the carrier of n
pub record HasCode (c : Coded) (before : List ℕ) (after : Option (List ℕ))
    (n r : Parts) : Type 0 where
  pub country : r.country ≡ c.source
  pub national : cow_str_bytes r.national ≡ c.rest
  pub prefix : option_map cow_str_bytes r.prefix ≡ Some before
  pub extension : option_map cow_str_bytes r.extension ≡ after
  pub carrier : r.carrier ≡ n.carrier

-- the same, but r may be without a prefix that would be the code in decimal
pub record IsCoded (c : Coded) (before : List ℕ) (after : Option (List ℕ))
    (n r : Parts) : Type 0 where
  pub country : r.country ≡ c.source
  pub national : cow_str_bytes r.national ≡ c.rest
  pub prefix : unwrap_or (option_map cow_str_bytes r.prefix) (decimal c.value) ≡ before
  pub extension : option_map cow_str_bytes r.extension ≡ after
  pub carrier : r.carrier ≡ n.carrier

-- what of a number with its code is lent, where the national part of the number that was given is
pub record KeepsLentCode (given r : Parts) : Type 0 where
  -- what was lent, and the code as prefix
  pub kept : KeepsLent given false r
  -- and there is a prefix, unless the code is the hint's alone
  pub has_prefix : ¬ (r.country ≡ Default) → IsSome r.prefix
