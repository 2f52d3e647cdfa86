-- How a number that is given as plain numbers is dialled with the letters of the text that it was
-- read from, and the part of a text in which a number may stand. No byte is no such text.
use Rattle.std.specs.Prelude.{◌≡◌, ℕ, List, [], Some, chars}
use Rattle.phone_values.specs.declared.reading.Reading.{Reading}
use Rattle.phone_parts.specs.Cores.{IsCore}
use Rattle.phone_records.specs.declared.loader.Metadata.{Metadata}
use Rattle.phone_dialling.specs.Abroad.{if_some}
use Rattle.phone_dialling.specs.Dialled.{IsDialled}
use Rattle.phone_dialling.specs.Lettered.{IsLettered}
use Rattle.phone_c_base.specs.Hints.{UnderHint}
use Rattle.phone_c_base.specs.Numbers.{IsNumber}
use Rattle.phone_c_base.specs.declared.number.Number as plain

-- the bytes of the region are a hint, the plain numbers and their bytes are a number, and it is
-- dialled so from there, as libphonenumber has it
abbrev pub IsLetteredText : List Metadata → (region raw : List ℕ) → plain.Number →
    (bytes text : List ℕ) → Type 0
IsLetteredText db region raw x bytes text = UnderHint region
    (λ from. (n : Reading) × IsNumber x bytes n × IsLettered db from n (if_some raw) text)

-- the same by our own answer
abbrev pub IsDialledText : List Metadata → (region raw : List ℕ) → plain.Number →
    (bytes text : List ℕ) → Type 0
IsDialledText db region raw x bytes text = UnderHint region
    (λ from. (n : Reading) × IsNumber x bytes n × IsDialled db from n (Some raw) text)

-- the part of a text in which a number may stand; nothing where there is none
pub data IsExtracted (t : List ℕ) : List ℕ → Type 0 where
  core : (part : List ℕ) → IsCore (chars t) (chars part) → IsExtracted t part
  none : ((part : List ℕ) → ¬ (IsCore (chars t) part)) → IsExtracted t []
