-- Why bytes are no table.
use Rattle.std.specs.Prelude.{◌≡◌, ⊤, ◌+◌, ◌<◌, ◌==◌, ℕ, true, false, List, [], ◌∷◌, ◌++◌, length}
use Rattle.std.specs.List.{list_any}
use Rattle.std.specs.Str.{IsUtf8}
use Rattle.phone_device.specs.declared.source.ReadError.{ReadError}
use Rattle.phone_device.specs.declared.source.ReadError.TheVariants as read
use Rattle.phone_lines.specs.Lines.{AreLines, without_return}
use Rattle.phone_prefixes.specs.declared.fault.LineFault.{LineFault}
use Rattle.phone_prefixes.specs.declared.fault.LineFault.TheVariants as fault
use Rattle.phone_prefixes.specs.declared.fault.PrefixesError.{PrefixesError}
use Rattle.phone_prefixes.specs.declared.fault.PrefixesError.TheVariants as error
use Rattle.phone_prefixes.specs.Tables.{AreEntries, Entry, HasPrefix, IsEntry, is_prefix}

-- these bytes stand before the first tab of the line, and these after it
pub record IsParted (line front text : List ℕ) : Type 0 where
  pub whole : line ≡ front ++ 9 ∷ text
  pub first : list_any (λ c. c == 9) front ≡ false

-- the line is no entry's, and this is wrong with it
pub data IsNoEntry : List ℕ → LineFault → Type 0 where
  empty : IsNoEntry [] fault.Empty
  no_tab : (line : List ℕ) → 0 < length line → list_any (λ c. c == 9) line ≡ false →
      IsNoEntry line fault.NoTab
  no_prefix : (line front text : List ℕ) → IsParted line front text →
      is_prefix front ≡ false → IsNoEntry line fault.NoPrefix
  not_utf8 : (line front text : List ℕ) → IsParted line front text →
      is_prefix front ≡ true → (IsUtf8 text → ⊥) → IsNoEntry line fault.NotUtf8

-- the line can't come after these entries, and this is wrong with it
pub data IsFault (entries : List Entry) (line : List ℕ) : LineFault → Type 0 where
  no_entry : (what : LineFault) → IsNoEntry line what → IsFault entries line what
  twice : (entry : Entry) → IsEntry line entry → HasPrefix entries entry.prefix →
      IsFault entries line fault.PrefixTwice

-- the line after these entries, one a line, is refused
abbrev pub RefusesLine : List Entry → List ℕ → PrefixesError → Type 0
RefusesLine entries line (error.Line number what) =
    (number ≡ length entries + 1) × IsFault entries line what
RefusesLine entries line error.Source = ⊥
RefusesLine entries line error.Memory = ⊤

-- the first lines are those of entries, and the next one, of this number, can't come after them
pub record IsFirstFault (bytes : List ℕ) (number : ℕ) (what : LineFault) : Type 0 where
  pub before : List (List ℕ)
  pub line : List ℕ
  pub after : List (List ℕ)
  pub lines : AreLines bytes (before ++ line ∷ after)
  pub entries : List Entry
  pub are : AreEntries before entries
  pub counted : number ≡ length before + 1
  pub fault : IsFault entries (without_return line) what

-- these bytes are refused
abbrev pub Refuses : List ℕ → PrefixesError → Type 0
Refuses bytes (error.Line number what) = IsFirstFault bytes number what
Refuses bytes error.Source = ⊥
Refuses bytes error.Memory = ⊤

-- a read that is refused, as a table that is
abbrev pub of_read : ReadError → PrefixesError
of_read read.Fault = error.Source
of_read read.Memory = error.Memory
