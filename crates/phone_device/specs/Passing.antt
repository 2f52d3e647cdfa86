-- What passes between a device and its user, where the device tells its bytes.
use Rattle.std.specs.Prelude.{◌≡◌, ℕ, ◌==◌, ◌&&◌, nat_lt, if◌then◌else◌, List, ◌++◌, length, [], ⊤}
use Rattle.std.specs.Prelude.{Option, Some, None}

-- the bytes of a device that doesn't tell them
abbrev pub untold : Option (List ℕ)
untold = None

-- of the bytes to come, where a source tells them, these passed first, and the others are still to
-- come
abbrev pub Passes : Option (List ℕ) → List ℕ → Option (List ℕ) → Type 0
Passes None bytes after = after ≡ None
Passes (Some all) bytes after = (rest : List ℕ) × (all ≡ bytes ++ rest) × (after ≡ Some rest)

-- of the bytes to come, where a source tells them, some passed
abbrev pub PassesSome : Option (List ℕ) → Option (List ℕ) → Type 0
PassesSome before after = (bytes : List ℕ) × Passes before bytes after

-- these are all the bytes to come, where a source tells them
abbrev pub IsAll : Option (List ℕ) → List ℕ → Type 0
IsAll None bytes = ⊤
IsAll (Some all) bytes = bytes ≡ all

-- none are to come, where a source tells them
abbrev pub IsAtEnd : Option (List ℕ) → Type 0
IsAtEnd before = IsAll before []

-- these were added to the bytes taken, where a sink tells them
abbrev pub Takes : Option (List ℕ) → List ℕ → Option (List ℕ) → Type 0
Takes None bytes after = after ≡ None
Takes (Some taken) bytes after = after ≡ Some (taken ++ bytes)

-- a beginning of these was added to the bytes taken, where a sink tells them
pub record TakesFront (before : Option (List ℕ)) (bytes : List ℕ)
    (after : Option (List ℕ)) : Type 0 where
  pub front : List ℕ
  pub rest : List ℕ
  pub whole : bytes ≡ front ++ rest
  pub taken : Takes before front after

-- what the sink took and what is held back is a text of which this holds
pub record Holds (is_text : List ℕ → Type 0) (held : List ℕ)
    (before after : Option (List ℕ)) : Type 0 where
  pub written : List ℕ
  pub taken : Takes before written after
  pub text : is_text (written ++ held)

-- the faults of a write of these bytes that took n of them: one where it took none of some
abbrev pub faults_of_write : ℕ → List ℕ → ℕ
faults_of_write n bytes = if (n == 0) && nat_lt 0 (length bytes) then 1 else 0
