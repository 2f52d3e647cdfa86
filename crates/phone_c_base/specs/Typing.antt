-- What is shown of a number while it is typed, and where the caret stands in it.
use Rattle.std.specs.Prelude.{◌≡◌, ℕ, List, Option, chars, length}
use Rattle.phone_values.specs.declared.country.Id.{Id}
use Rattle.phone_records.specs.declared.loader.Metadata.{Metadata}
use Rattle.phone_typed.specs.Keys.{keys_in, up_to_key}
use Rattle.phone_typed.specs.Typed.{typed}

-- under a hint this is shown of the keys of the text
abbrev pub IsShown : List Metadata → Option Id → (text shown : List ℕ) → Type 0
IsShown db hint text shown = shown ≡ typed db hint (keys_in (chars text))

-- the n-th key stands after so many characters of what is shown, which are as many bytes
pub record IsPlaceOfKey (shown : List ℕ) (n place : ℕ) : Type 0 where
  pub characters : place ≡ length (chars (up_to_key n shown))
  pub bytes : place ≡ length (up_to_key n shown)

-- under a hint the n-th key stands there in what is shown of the text
abbrev pub IsCaret : List Metadata → Option Id → (text : List ℕ) → (n caret : ℕ) → Type 0
IsCaret db hint text n caret = IsPlaceOfKey (typed db hint (keys_in (chars text))) n caret
