use Rattle.std.proofs.Common.{◌≡◌, ◌&&◌, not, ℕ, List, Bool, true, if◌then◌else◌, codes, None}
use Rattle.std.proofs.Common.{Option, Some, refl, ap, ap₂, ◌∙◌}
use Rattle.std.specs.List.{filter_map}
use Rattle.phone_values.specs.Ids.{name}
use Rattle.phone_chars.specs.Characters.{is_nd}
use Rattle.phone_chars.specs.Cuts.{after_front}
use Rattle.phone_library_text.specs.Letters.{value_of}
use Rattle.phone_parts.proofs.PrintedInternational.{digit_nd}
use Rattle.phone_parts.specs.Cores.{is_start}
use Rattle.phone_parts.specs.Texts.{begins}
use Rattle.phone_short.specs.Emergencies.{is_emergency_in}
use Rattle.phone_short.specs.Numbers.{is_valid}
use Rattle.phone_short.specs.Texts.{before_second, digits_in, from_start, is_dialled_within}
use Rattle.phone_short.specs.declared.kind.ShortKind.{ShortKind}
use Rattle.phone_short.specs.declared.kind.ShortKind.TheVariants.{Emergency, ShortNumber}
use Rattle.phone_territory.specs.First.{first_match, is_whole_match}
use Rattle.headline_examples.proofs.Searches.{searching}
use Rattle.headline_examples.specs.Samples.{nz_short}
use Rattle.headline_examples.proofs.told.short_number.Goals as goal

exact : is_whole_match (codes "111") (codes "111") ≡ true
unfolding searching first_match
exact = refl

-- the first character is a digit, so that all of the text counts
abbrev from_digit : Bool → List ℕ
from_digit b = if not b then after_front (λ c. not (is_start c)) (codes "11") else codes "111"

started : from_start (codes "111") ≡ codes "111"
started = ap from_digit (digit_nd 49 refl)

within : is_dialled_within (codes "111") ≡ true
within = ap (begins is_nd) started ∙ digit_nd 49 refl

dialled : digits_in (codes "111") ≡ codes "111"
dialled = ap (λ t. filter_map value_of (before_second t)) started

emergency : is_emergency_in nz_short (codes "111") ≡ true
emergency = ap₂ ◌&&◌ within (ap (is_whole_match (codes "111")) dialled ∙ exact)

-- what else it is
abbrev otherwise : Option ShortKind
otherwise =
    if is_dialled_within (codes "111") && is_valid nz_short (digits_in (codes "111"))
    then Some ShortNumber else None

pub returns : goal.returns
unfolding name
returns c = record {
  valid = ap (is_valid nz_short) dialled ∙ ap (λ b. b && b) exact;
  emergency = emergency;
  kind = ap (λ b. if b then Some Emergency else otherwise) emergency;
}
