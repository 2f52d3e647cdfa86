-- How a number is dialled from a region: after `formatOutOfCountryCallingNumber` of libphonenumber.
use Rattle.std.specs.Prelude.{ℕ, ◌==◌, ◌&&◌, not, if◌then◌else◌, List, [], ◌∷◌, ◌++◌, codes}
use Rattle.std.specs.Prelude.{length, Option, None, Some, Result, Ok, Err}
use Rattle.std.specs.Fmt.{decimal}
use Rattle.std.specs.List.{list_all}
use Rattle.std.specs.Option.{option_and_then, option_map_or, option_or}
use Rattle.phone_chars.specs.Characters.{is_digit}
use Rattle.phone_values.specs.Ids.{name}
use Rattle.phone_values.specs.declared.country.Id.{Id}
use Rattle.phone_values.specs.declared.mode.Mode.TheVariants.{International}
use Rattle.phone_territory.specs.Records.{code_of}
use Rattle.phone_plans.specs.CodeLookUps.{first_of, territories}
use Rattle.phone_plans.specs.Records.{last_with}
use Rattle.phone_records.specs.declared.loader.Metadata.{Metadata}
use Rattle.phone_values.specs.declared.reading.Reading.{Reading}
use Rattle.phone_print.specs.Texts.{extension_part, laid_out, national_text}
use Rattle.phone_engine.specs.declared.dialled.DialError.{DialError}
use Rattle.phone_engine.specs.declared.dialled.DialError.TheVariants.{UnknownCode, UnknownRegion}

-- a pattern that is digits alone, one at least: it matches itself and nothing else
abbrev pub if_digits : List ℕ → Option (List ℕ)
if_digits pattern = if not (length pattern == 0) && list_all is_digit pattern then Some pattern
    else None

-- a text that isn't empty
abbrev pub if_some : List ℕ → Option (List ℕ)
if_some text = if length text == 0 then None else Some text

-- the international prefix that is dialled in a territory: the preferred one, where it isn't empty,
-- else the pattern of its prefixes where that is digits alone
abbrev pub dialled_prefix : Metadata → Option (List ℕ)
dialled_prefix m = option_or (option_and_then if_some m.preferred_international_prefix)
    (option_and_then if_digits m.international_prefix)

-- what stands before a calling code: that prefix and a space, or a plus sign
abbrev pub dialling_prefix_of : Metadata → List ℕ
dialling_prefix_of m = option_map_or (λ p. p ++ 32 ∷ []) (dialled_prefix m) (codes "+")

-- a number dialled from a territory of another code, laid out by the territory m: what stands
-- before the code, the code, a space, the number laid out as in international text, the extension
abbrev pub dialled_abroad : (from m : Metadata) → Reading → List ℕ
dialled_abroad from m n = dialling_prefix_of from ++ (decimal n.code.value ++
    32 ∷ (laid_out m International None n ++ extension_part m n.extension))

-- a number dialled from a territory: of its own code the national text, else as it is dialled
-- abroad
abbrev pub dialled_by : (from m : Metadata) → Reading → List ℕ
dialled_by from m n = if code_of from == n.code.value then national_text m None n
    else dialled_abroad from m n

-- a number dialled from a region, laid out by the first territory of its code; refused where the
-- region has no territory, and else where the code has none
abbrev pub dialled_text : List Metadata → Id → Reading → Result (List ℕ) DialError
dialled_text db region n = option_map_or
    (λ (from : Metadata). option_map_or (λ m. Ok (dialled_by from m n))
    (first_of (territories n.code.value db)) (Err UnknownCode))
    (last_with (name region) db) (Err UnknownRegion)
