-- Texts in Arrow's layout.
use Rattle.std.specs.Prelude.{ℕ, ◌+◌, ◌-◌, ◌*◌, ◌^◌, ◌&&◌, ◌||◌, ◌==◌, Bool, List, [], ◌∷◌}
use Rattle.std.specs.Prelude.{if◌then◌else◌, length, nat_le, nat_lt, slice_range}
use Rattle.std.specs.Prelude.{Option, None, Some}
use Rattle.phone_arrow.specs.Bits.{is_set}

-- what stands in the bytes between neighbouring offsets
abbrev pub between : (bytes offsets : List ℕ) → List (List ℕ)
between bytes (start ∷ end ∷ ends) = slice_range bytes start end ∷ between bytes (end ∷ ends)
between bytes _ = []

-- texts, but none where the bitmap's flag isn't set, the first text's flag being at this place
abbrev pub where_set : (bits : List ℕ) → ℕ → List (List ℕ) → List (Option (List ℕ))
where_set bits place [] = []
where_set bits place (text ∷ texts) =
    (if is_set bits place then Some text else None) ∷ where_set bits (place + 1) texts

-- the texts of a column: each stands between two offsets, or isn't there
abbrev pub texts_in : (offsets bytes bits : List ℕ) → (first : ℕ) → List (Option (List ℕ))
texts_in offsets bytes bits first = where_set bits first (between bytes offsets)

-- no number is below the one before it, nor above this one
abbrev pub are_ascending : (before : ℕ) → List ℕ → (last : ℕ) → Bool
are_ascending before [] last = nat_le before last
are_ascending before (next ∷ others) last = nat_le before next && are_ascending next others last

-- a bitmap has so many flags; so has one without a byte
abbrev pub has_flags : (bits : List ℕ) → ℕ → Bool
has_flags bits count = length bits == 0 || nat_le count (8 * length bits)

-- the offsets ascend within the bytes, and the bitmap has the texts' flags, at places below 2^64
abbrev pub is_column : (offsets bytes bits : List ℕ) → (first : ℕ) → Bool
is_column offsets bytes bits first = are_ascending 0 offsets (length bytes) &&
    nat_lt (first + (length offsets - 1)) (2 ^ 64) &&
    has_flags bits (first + (length offsets - 1))
