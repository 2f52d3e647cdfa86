-- The national text of a number as it is dialled with a carrier's code.
use Rattle.std.specs.Prelude.{◌≡◌, ℕ, ◌==◌, if◌then◌else◌, List}
use Rattle.phone_values.specs.declared.reading.Reading.{Reading}
use Rattle.phone_records.specs.declared.loader.Metadata.{Metadata}
use Rattle.phone_questions.specs.Carriers.{national_with, preferred_carrier}
use Rattle.phone_c_base.specs.Numbers.{IsNumber}
use Rattle.phone_c_base.specs.declared.number.Number as plain

-- with this carrier; or, where the number's own is preferred, with that where it has one
abbrev pub national_text : List Metadata → (carrier : List ℕ) → (prefers_own : ℕ) → Reading →
    List ℕ
national_text db carrier prefers_own n =
    if prefers_own == 0 then national_with db carrier n
    else national_with db (preferred_carrier carrier n.carrier) n

-- the plain numbers and their bytes are a number, and the text is this
abbrev pub IsNationalWith : List Metadata → plain.Number → (bytes carrier : List ℕ) →
    (prefers_own : ℕ) → List ℕ → Type 0
IsNationalWith db x bytes carrier prefers_own text = (n : Reading) × IsNumber x bytes n ×
    (text ≡ national_text db carrier prefers_own n)
