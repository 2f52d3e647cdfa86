-- Bytes whose first character depends on what comes after them.
use Rattle.std.specs.Prelude.{◌≡◌, ℕ, ◌<◌, true, List, [], ◌∷◌, length, ⊤}
use Rattle.std.specs.Char.Utf16.{is_high_surrogate}
use Rattle.phone_encodings.specs.Encodings.{unit}
use Rattle.phone_encodings.specs.declared.encoding.Encoding.{Encoding}
use Rattle.phone_encodings.specs.declared.encoding.Encoding.TheVariants as encoding
use Rattle.phone_encodings.specs.declared.encoding.Order.{Order}

-- in UTF-16: there is no unit, or one that is the first of a pair, and no whole second one
abbrev pub IsUnfinishedUnit : Order → List ℕ → Type 0
IsUnfinishedUnit order [] = ⊤
IsUnfinishedUnit order (a ∷ []) = ⊤
IsUnfinishedUnit order (a ∷ b ∷ []) = is_high_surrogate (unit order a b) ≡ true
IsUnfinishedUnit order (a ∷ b ∷ c ∷ []) = is_high_surrogate (unit order a b) ≡ true
IsUnfinishedUnit order (a ∷ b ∷ c ∷ d ∷ bytes) = ⊥

-- in an encoding: where each byte is a character there is none; where the order of UTF-16 isn't
-- known there is at most one
abbrev pub IsUnfinished : Encoding → List ℕ → Type 0
IsUnfinished encoding.Latin1 bytes = bytes ≡ []
IsUnfinished encoding.Windows1252 bytes = bytes ≡ []
IsUnfinished encoding.Utf16 bytes = length bytes < 2
IsUnfinished (encoding.Utf16In order) bytes = IsUnfinishedUnit order bytes
