-- One byte more of a bitmap.
use Rattle.std.proofs.Common.{◌≡◌, ℕ, ◌+◌, ◌*◌, Bool, List, [], ◌∷◌, ◌++◌, refl, add-one}
use Rattle.phone_arrow.specs.Bits.{byte_from, first_bytes}

pub first_bytes_more : (flags : List Bool) (k : ℕ) →
    first_bytes flags (k + 1) ≡ first_bytes flags k ++ byte_from flags (8 * k) ∷ []
first_bytes_more flags k = rw add-one refl
