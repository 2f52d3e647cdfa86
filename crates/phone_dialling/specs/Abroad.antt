-- How a number is dialled from a region: after `formatOutOfCountryCallingNumber` of libphonenumber.
use Rattle.std.specs.Prelude.{ℕ, ◌==◌, ◌&&◌, Bool, true, false, if◌then◌else◌}
use Rattle.std.specs.Prelude.{List, [], ◌∷◌, ◌++◌, chars, codes, Option, None, Some}
use Rattle.std.specs.List.{list_all}
use Rattle.std.specs.Option.{option_and_then, option_map_or, option_or}
use Rattle.phone_chars.specs.Characters.{is_digit, is_one_of}
use Rattle.phone_chars.specs.Cuts.{after_front}
use Rattle.phone_parts.specs.Texts.{begins}
use Rattle.phone_values.specs.Numbers.{text_of}
use Rattle.phone_values.specs.declared.country.Id.{Id}
use Rattle.phone_values.specs.declared.mode.Mode.TheVariants.{International, National}
use Rattle.phone_values.specs.declared.reading.Reading.{Reading}
use Rattle.phone_plans.specs.CodeLookUps.{first_of, territories}
use Rattle.phone_values.specs.declared.rules.Rules.TheVariants.{Library}
use Rattle.phone_print.specs.Texts.{international_by}
use Rattle.phone_records.specs.declared.loader.Metadata.{Metadata}
use Rattle.phone_territory.specs.Records.{code_of}
use Rattle.phone_questions.specs.Regions.{territory_of}
use Rattle.phone_dialling.specs.Texts.{plain, signless, text_in}

-- a sign at which a telephone waits for a tone: a tilde, or one of its like
abbrev pub is_wave : ℕ → Bool
is_wave c = is_one_of (126 ∷ 8275 ∷ 8764 ∷ 65374 ∷ []) c

-- digits, one at least
abbrev pub are_some_digits : List ℕ → Bool
are_some_digits [] = false
are_some_digits (c ∷ cs) = list_all is_digit (c ∷ cs)

-- nothing; or such a sign, and digits
abbrev pub is_tail : List ℕ → Bool
is_tail [] = true
is_tail (c ∷ cs) = is_wave c && are_some_digits cs

-- a pattern that is one prefix: digits, and perhaps such a tail
abbrev pub is_single : List ℕ → Bool
is_single t = begins is_digit t && is_tail (after_front is_digit t)

-- a pattern where it is one prefix
abbrev pub if_single : List ℕ → Option (List ℕ)
if_single pattern = if is_single (chars pattern) then Some pattern else None

-- a text that isn't empty
abbrev pub if_some : List ℕ → Option (List ℕ)
if_some [] = None
if_some (c ∷ cs) = Some (c ∷ cs)

-- the international prefix that a territory prefers
abbrev pub preferred_prefix : Metadata → Option (List ℕ)
preferred_prefix m = option_and_then if_some m.preferred_international_prefix

-- the pattern of its prefixes, where that is one prefix
abbrev pub single_prefix : Metadata → Option (List ℕ)
single_prefix m = option_and_then if_single m.international_prefix

-- the international prefix that is dialled in a territory: the preferred one, else the single one
abbrev pub prefix_of : Metadata → Option (List ℕ)
prefix_of m = option_or (preferred_prefix m) (single_prefix m)

-- a text behind a prefix and a space; without a prefix behind a plus sign
abbrev pub behind_prefix : Option (List ℕ) → List ℕ → List ℕ
behind_prefix None rest = 43 ∷ rest
behind_prefix (Some prefix) rest = prefix ++ 32 ∷ rest

-- a number that is dialled from a territory of another code and laid out by the territory m: its
-- international text with a prefix in the place of the plus sign
abbrev pub abroad_text : (from m : Metadata) → Reading → List ℕ
abroad_text from m n = behind_prefix (prefix_of from)
    (signless (international_by Library m None (plain n)))

-- national text, between regions of the code 1 behind the digit 1 and a space
abbrev pub home_text : List Metadata → Option (List ℕ) → Reading → List ℕ
home_text db raw n = if n.code.value == 1 then codes "1 " ++ text_in db National raw n
    else text_in db National raw n

-- a number that is dialled from a territory and laid out by the territory m
abbrev pub dialled_by : List Metadata → (from m : Metadata) → Option (List ℕ) → Reading → List ℕ
dialled_by db from m raw n = if code_of from == n.code.value then home_text db raw n
    else abroad_text from m n

-- the same, laid out by the first territory of its code; of a code that isn't listed the digits
abbrev pub dialled_in : List Metadata → Metadata → Option (List ℕ) → Reading → List ℕ
dialled_in db from raw n = option_map_or (λ m. dialled_by db from m raw n)
    (first_of (territories n.code.value db)) (text_of n.national)

-- a number that is dialled from a region; from no region, or one without a territory, its
-- international text
abbrev pub dialled_text : List Metadata → Option Id → Option (List ℕ) → Reading → List ℕ
dialled_text db from raw n = option_map_or (λ m. dialled_in db m raw n)
    (option_and_then (territory_of db) from) (text_in db International raw n)
