-- What is answered where a number is printed and read again.
use Rattle.std.specs.Prelude.{◌≡◌, ◌⊎◌, ℕ, IsUtf8, List, Option, None, Some, Result, Ok, Err, chars}
use Rattle.phone_values.specs.declared.error.ParseError.{ParseError}
use Rattle.phone_values.specs.declared.error.ParseError.TheVariants.{InvalidCountryCode, Memory}
use Rattle.phone_values.specs.declared.mode.Mode.{Mode}
use Rattle.phone_records.specs.declared.loader.Metadata.{Metadata}
use Rattle.phone_read.specs.Readings.{Reads}
use Rattle.phone_values.specs.declared.reading.Reading.{Reading}
use Rattle.phonenumber.specs.Printed.{printed}

-- m has the code and the national number of n, and the extension e; source and carrier may differ
pub record IsSame (n : Reading) (e : Option (List ℕ)) (m : Reading) : Type 0 where
  pub code : m.code.value ≡ n.code.value
  pub national : m.national ≡ n.national
  pub extension : m.extension ≡ e

-- without a hint, the text is read as a number that is n, with this extension
abbrev pub IsReadAs : List Metadata → List ℕ → Reading → Option (List ℕ) → Type 0
IsReadAs db t n extension = (m : Reading) × (Reads db None t (Ok m)) × (IsSame n extension m)

-- the answer is that number, or want of memory
abbrev pub IsAgain : Reading → Option (List ℕ) → Result Reading ParseError → Type 0
IsAgain n e (Ok m) = IsSame n e m
IsAgain n e (Err x) = x ≡ Memory

-- the answer is what the printed text is read as without a hint, or that the code isn't listed,
-- where none is printed, or want of memory
abbrev pub IsReadOfPrinted : List Metadata → Mode → Reading → Result Reading ParseError → Type 0
IsReadOfPrinted db mode n r =
    (r ≡ Err Memory) ⊎ (((printed db mode None n ≡ None) × (r ≡ Err InvalidCountryCode)) ⊎
    ((text : List ℕ) × (IsUtf8 text) × (printed db mode None n ≡ Some text) ×
    Reads db None (chars text) r))
