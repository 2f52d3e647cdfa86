-- The characters of the words that are looked for.
use Rattle.std.proofs.Common.{◌≡◌, [], ◌∷◌, codes, refl}
use Rattle.std.specs.Str.{chars}

pub chars-stop : chars (codes ".") ≡ 46 ∷ []
unfolding chars
chars-stop = refl

pub chars-semicolon : chars (codes ";") ≡ 59 ∷ []
unfolding chars
chars-semicolon = refl

pub chars-context : chars (codes ";phone-context=") ≡ codes ";phone-context="
unfolding chars
chars-context = refl

pub chars-subaddress : chars (codes ";isub=") ≡ codes ";isub="
unfolding chars
chars-subaddress = refl

pub chars-scheme : chars (codes "tel:") ≡ codes "tel:"
unfolding chars
chars-scheme = refl
