-- How long the matches of a pattern are, in bytes.
use Rattle.std.specs.Prelude.{◌<◌, ◌≤◌, ◌+◌, ℕ, List, length, Option, None, IfSome}
use Rattle.std.specs.Option.{IsSomeAnd}
use Rattle.std.specs.Str.{IsAscii}
use Rattle.regex_hir.specs.Matches.{IsMinLen, Matches}
use Rattle.regex_hir.specs.Re.{Re}

-- a least length, and a greatest one if one is known
pub record Bounds : Type 0 where
  pub least : ℕ
  pub most : Option ℕ

-- those of which nothing is known
abbrev pub any_length : Bounds
any_length = record { least = 0; most = None }

-- no match in a text of ASCII is longer than n bytes
abbrev pub IsMaxLenInAscii : Re → ℕ → Type 0
IsMaxLenInAscii re n = (hay : List ℕ) → IsAscii hay → (i j : ℕ) → Matches hay re i j → j ≤ i + n

-- no match is shorter than the least, and none in a text of ASCII longer than the greatest
abbrev pub HasLengths : Bounds → Re → Type 0
HasLengths b re = IsMinLen re b.least × IfSome b.most (IsMaxLenInAscii re)

-- a text of so many bytes is shorter than each match
abbrev pub IsTooShort : Bounds → ℕ → Type 0
IsTooShort b len = len < b.least

-- a text is of ASCII, and longer than each match in such a text
abbrev pub IsTooLong : Bounds → List ℕ → Type 0
IsTooLong b hay = IsSomeAnd b.most (λ n. n < length hay) × IsAscii hay
