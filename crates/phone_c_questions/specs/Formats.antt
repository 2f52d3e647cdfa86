-- How a number that is given as plain numbers is written so that it can be dialled, or as the text
-- was that it was read from. No byte is no such text.
use Rattle.std.specs.Prelude.{◌≡◌, ℕ, ◌==◌, not, List}
use Rattle.phone_values.specs.declared.mode.Mode.{Mode}
use Rattle.phone_values.specs.declared.reading.Reading.{Reading}
use Rattle.phone_records.specs.declared.loader.Metadata.{Metadata}
use Rattle.phone_dialling.specs.Abroad.{dialled_text, if_some}
use Rattle.phone_dialling.specs.Mobile.{mobile_text}
use Rattle.phone_dialling.specs.Original.{IsOriginal}
use Rattle.phone_dialling.specs.Texts.{text_in}
use Rattle.phone_c_base.specs.Answers.{mode_number}
use Rattle.phone_c_base.specs.Hints.{UnderHint}
use Rattle.phone_c_base.specs.Numbers.{IsNumber}
use Rattle.phone_c_base.specs.declared.number.Number as plain

-- the plain numbers and their bytes are a number, and this is its text in the mode of this number
abbrev pub IsTextIn : List Metadata → (mode : ℕ) → (raw : List ℕ) → plain.Number →
    (bytes text : List ℕ) → Type 0
IsTextIn db mode raw x bytes text = (n : Reading) × (m : Mode) × IsNumber x bytes n ×
    (mode ≡ mode_number m) × (text ≡ text_in db m (if_some raw) n)

-- what a mobile phone dials where a region's id is this, with symbols where their number isn't 0
abbrev pub mobile_text_of : List Metadata → (id : List ℕ) → (symbols : ℕ) → (raw : List ℕ) →
    Reading → List ℕ
mobile_text_of db id symbols raw n = mobile_text db id (not (symbols == 0)) (if_some raw) n

-- the plain numbers and their bytes are a number, and a mobile phone dials it so
abbrev pub IsMobileText : List Metadata → (id : List ℕ) → (symbols : ℕ) → (raw : List ℕ) →
    plain.Number → (bytes text : List ℕ) → Type 0
IsMobileText db id symbols raw x bytes text = (n : Reading) × IsNumber x bytes n ×
    (text ≡ mobile_text_of db id symbols raw n)

-- the bytes of the region are a hint, the plain numbers and their bytes are a number, and it is
-- dialled so from there
abbrev pub IsTextFrom : List Metadata → (region raw : List ℕ) → plain.Number →
    (bytes text : List ℕ) → Type 0
IsTextFrom db region raw x bytes text = UnderHint region
    (λ from. (n : Reading) × IsNumber x bytes n × (text ≡ dialled_text db from (if_some raw) n))

-- the same of a number that is printed as it was written
abbrev pub IsTextAsWritten : List Metadata → (region raw : List ℕ) → plain.Number →
    (bytes text : List ℕ) → Type 0
IsTextAsWritten db region raw x bytes text = UnderHint region
    (λ from. (n : Reading) × IsNumber x bytes n × IsOriginal db from n (if_some raw) text)
