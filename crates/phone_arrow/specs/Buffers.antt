-- Buffers put together into one: each begins at a multiple of eight bytes.
use Rattle.std.specs.Prelude.{ℕ, ◌+◌, ◌-◌, ◌%◌, List, [], ◌∷◌, ◌++◌, length, replicate}
use Rattle.std.specs.Int.{w64, to_le_bytes}
use Rattle.std.specs.List.{flat_map}

-- zeros behind a buffer of so many bytes, up to a multiple of eight
abbrev pub padding : ℕ → List ℕ
padding len = replicate ((8 - len % 8) % 8) 0

-- a buffer with the zeros behind it
abbrev pub padded : List ℕ → List ℕ
padded buffer = buffer ++ padding (length buffer)

-- where each of these pieces ends, if they stand side by side from this place on
abbrev pub ends_from : ℕ → List (List ℕ) → List ℕ
ends_from place [] = []
ends_from place (piece ∷ pieces) =
    (place + length piece) ∷ ends_from (place + length piece) pieces

-- the offsets of pieces that stand side by side: 0, and where each ends
abbrev pub offsets_of : List (List ℕ) → List ℕ
offsets_of pieces = 0 ∷ ends_from 0 pieces

-- numbers, each in eight bytes, the lowest first
abbrev pub in_eight_bytes : List ℕ → List ℕ
in_eight_bytes = flat_map (to_le_bytes w64)
