-- Bitmaps: eight flags a byte, the first of them its lowest bit.
use Rattle.std.specs.Prelude.{ℕ, zero, suc, ◌+◌, ◌*◌, ◌/◌, ◌%◌, ◌==◌, ◌||◌, Bool, false, List, []}
use Rattle.std.specs.Prelude.{◌∷◌, ◌++◌, if◌then◌else◌, get_or, length}
use Rattle.std.specs.Int.{bit_at}

-- the flag at a place of a bitmap; where the bitmap has no byte, each flag is set
abbrev pub is_set : (bits : List ℕ) → ℕ → Bool
is_set bits place = length bits == 0 || bit_at (get_or bits (place / 8) 0) (place % 8) == 1

-- a flag by its number: 1 where it is set, and else 0; 0 past the last
abbrev pub flag_at : List Bool → ℕ → ℕ
flag_at flags place = if get_or flags place false then 1 else 0

-- the byte of eight flags, from this place on
abbrev pub byte_from : List Bool → ℕ → ℕ
byte_from flags i = flag_at flags i + 2 * flag_at flags (i + 1) + 4 * flag_at flags (i + 2) +
    8 * flag_at flags (i + 3) + 16 * flag_at flags (i + 4) + 32 * flag_at flags (i + 5) +
    64 * flag_at flags (i + 6) + 128 * flag_at flags (i + 7)

-- the first bytes of the bitmap of flags, so many
abbrev pub first_bytes : List Bool → ℕ → List ℕ
first_bytes flags zero = []
first_bytes flags (suc n) = first_bytes flags n ++ byte_from flags (8 * n) ∷ []

-- the bitmap of flags
abbrev pub bitmap_of : List Bool → List ℕ
bitmap_of flags = first_bytes flags ((length flags + 7) / 8)
