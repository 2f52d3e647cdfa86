-- What the patterns of international prefixes find in front of digits.
use Rattle.std.proofs.Common.{◌≡◌, codes, Some, refl}
use Rattle.phone_territory.specs.First.{first_match, first_span}
use Rattle.headline_examples.proofs.Searches.{searching}

pub us_prefix : first_span (codes "011") (codes "0116433316005") ≡ Some (0, 3)
unfolding searching first_match
us_prefix = refl

pub kp_prefixes : first_span (codes "00|99") (codes "6433316005") ≡ Some (7, 9)
unfolding searching first_match
kp_prefixes = refl

pub nz_own : first_span (codes "00") (codes "33316005") ≡ Some (5, 7)
unfolding searching first_match
nz_own = refl

pub nz_home : first_span (codes "00") (codes "033316005") ≡ Some (6, 8)
unfolding searching first_match
nz_home = refl
