-- Which number plain numbers are, with bytes in which its texts stand.
use Rattle.std.specs.Prelude.{◌≡◌, ℕ, ◌+◌, ◌^◌, ◌<◌, ◌≤◌, List, [], ◌++◌, length, slice_range}
use Rattle.std.specs.Prelude.{Option, None, Some, unwrap_or, IsUtf8}
use Rattle.phone_values.specs.declared.country.Source.{Source}
use Rattle.phone_values.specs.declared.country.Source.TheVariants.{Plus, Idd, Number, Default}
use Rattle.phone_values.specs.declared.reading.Reading.{Reading}
use Rattle.phone_c_base.specs.declared.number.Number as plain
use Rattle.phone_c_base.specs.declared.number.Part.{Part}

-- how a calling code was found, by its number
abbrev pub source_number : Source → ℕ
source_number Plus = 0
source_number Idd = 1
source_number Number = 2
source_number Default = 3

-- the calling code, its source and the national number are these plain numbers
pub record HasNumbers (x : plain.Number) (n : Reading) : Type 0 where
  pub code : n.code.value ≡ x.code
  pub source : source_number n.code.source ≡ x.source
  pub zeros : n.national.zeros ≡ x.zeros
  pub value : n.national.value ≡ x.value
  pub held : x.value < 2 ^ 56

-- a text stands at a place in the bytes
abbrev pub IsAt : List ℕ → ℕ → List ℕ → Type 0
IsAt bytes start text = (start + length text ≤ length bytes) ×
    (text ≡ slice_range bytes start (start + length text))

-- a text that may be absent: it is not there; or it is there, is UTF-8, and stands at its start
-- with its length
abbrev pub IsPart : Part → List ℕ → Option (List ℕ) → Type 0
IsPart p bytes None = p.is_there ≡ 0
IsPart p bytes (Some text) =
    (0 < p.is_there) × (p.len ≡ length text) × IsAt bytes p.start text × IsUtf8 text

-- the plain numbers and the bytes are this number
pub record IsNumber (x : plain.Number) (bytes : List ℕ) (n : Reading) : Type 0 where
  pub numbers : HasNumbers x n
  pub extension : IsPart x.extension bytes n.extension
  pub carrier : IsPart x.carrier bytes n.carrier

-- the texts of a number, side by side
abbrev pub texts_of : Reading → List ℕ
texts_of n = unwrap_or n.extension [] ++ unwrap_or n.carrier []

-- the plain numbers are no number's
abbrev pub AreNone : plain.Number → Type 0
AreNone x = (n : Reading) → ¬ (HasNumbers x n)

-- the plain numbers and the bytes are no number
abbrev pub AreNoNumber : plain.Number → List ℕ → Type 0
AreNoNumber x bytes = (n : Reading) → ¬ (IsNumber x bytes n)
