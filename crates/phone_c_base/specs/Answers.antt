-- What is told of a number that is given as plain numbers.
use Rattle.std.specs.Prelude.{◌≡◌, ℕ, if◌then◌else◌, List, [], Some}
use Rattle.std.specs.Prelude.{None}
use Rattle.std.specs.Option.{option_map_or}
use Rattle.phone_values.specs.Ids.{name}
use Rattle.phone_values.specs.declared.kind.«Type».{«Type»}
use Rattle.phone_values.specs.declared.kind.«Type».TheVariants.{FixedLine, Mobile}
use Rattle.phone_values.specs.declared.kind.«Type».TheVariants.{FixedLineOrMobile}
use Rattle.phone_values.specs.declared.kind.«Type».TheVariants.{TollFree, PremiumRate, SharedCost}
use Rattle.phone_values.specs.declared.kind.«Type».TheVariants.{PersonalNumber, Voip, Pager, Uan}
use Rattle.phone_values.specs.declared.kind.«Type».TheVariants.{Emergency, Voicemail, ShortCode}
use Rattle.phone_values.specs.declared.kind.«Type».TheVariants.{StandardRate, Carrier}
use Rattle.phone_values.specs.declared.kind.«Type».TheVariants.{NoInternational, Unknown}
use Rattle.phone_values.specs.declared.mode.Mode.{Mode}
use Rattle.phone_values.specs.declared.mode.Mode.TheVariants.{E164, International, National}
use Rattle.phone_values.specs.declared.mode.Mode.TheVariants.{Rfc3966}
use Rattle.phone_records.specs.declared.loader.Metadata.{Metadata}
use Rattle.phone_values.specs.declared.reading.Reading.{Reading}
use Rattle.phone_engine.specs.Facts.{is_valid_by, kind_by, printed_as, region_by}
use Rattle.phone_values.specs.declared.rules.Rules.{Rules}
use Rattle.phone_print.specs.Texts.{e164_text}
use Rattle.phone_library.specs.Printed.{printed_by}
use Rattle.phone_c_base.specs.Numbers.{HasNumbers, IsNumber}
use Rattle.phone_c_base.specs.declared.number.Number as plain

-- a kind by its number
abbrev pub kind_number : «Type» → ℕ
kind_number FixedLine = 0
kind_number Mobile = 1
kind_number FixedLineOrMobile = 2
kind_number TollFree = 3
kind_number PremiumRate = 4
kind_number SharedCost = 5
kind_number PersonalNumber = 6
kind_number Voip = 7
kind_number Pager = 8
kind_number Uan = 9
kind_number Emergency = 10
kind_number Voicemail = 11
kind_number ShortCode = 12
kind_number StandardRate = 13
kind_number Carrier = 14
kind_number NoInternational = 15
kind_number Unknown = 16

-- by rules, the kind of the number that has these plain numbers
abbrev pub IsKind : Rules → List Metadata → plain.Number → ℕ → Type 0
IsKind rules db x kind =
    (n : Reading) × HasNumbers x n × (kind ≡ kind_number (kind_by rules db n))

-- by rules, 1 where the number is valid, else 0
abbrev pub IsValidity : Rules → List Metadata → plain.Number → ℕ → Type 0
IsValidity rules db x valid = (n : Reading) × HasNumbers x n ×
    (valid ≡ (if is_valid_by rules db n then 1 else 0))

-- by rules, the id of its region; no byte where it has none
abbrev pub IsRegion : Rules → List Metadata → plain.Number → List ℕ → Type 0
IsRegion rules db x id = (n : Reading) × HasNumbers x n ×
    (id ≡ option_map_or name (region_by rules db n) [])

-- its E.164 text, by which tables are keyed
abbrev pub IsKey : plain.Number → List ℕ → Type 0
IsKey x text = (n : Reading) × HasNumbers x n × (text ≡ e164_text n)

-- a mode by its number
abbrev pub mode_number : Mode → ℕ
mode_number E164 = 0
mode_number International = 1
mode_number National = 2
mode_number Rfc3966 = 3

-- by rules, the text of the number in the mode
abbrev pub IsPrinted : Rules → List Metadata → plain.Number → (bytes : List ℕ) → ℕ → List ℕ →
    Type 0
IsPrinted rules db x bytes mode text = (n : Reading) × (m : Mode) × IsNumber x bytes n ×
    (mode ≡ mode_number m) × (printed_by rules db m (printed_as rules n) ≡ Some text)

-- by rules, it is a number and a mode, but no territory has its code
abbrev pub IsUnprinted : Rules → List Metadata → plain.Number → (bytes : List ℕ) → ℕ → Type 0
IsUnprinted rules db x bytes mode = (n : Reading) × (m : Mode) × IsNumber x bytes n ×
    (mode ≡ mode_number m) × (printed_by rules db m (printed_as rules n) ≡ None)
