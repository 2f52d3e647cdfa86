-- What kind a number is of in a territory, and whether it belongs to it: after the original's
-- `validator`.
use Rattle.std.specs.Prelude.{ℕ, ◌||◌, Bool, true, false, if◌then◌else◌, List, [], ◌∷◌, Option}
use Rattle.std.specs.Prelude.{None, Some}
use Rattle.std.specs.List.{find}
use Rattle.std.specs.Option.{option_map_or}
use Rattle.std.specs.Str.{bytes_eq}
use Rattle.phone_values.specs.declared.kind.«Type».{«Type»}
use Rattle.phone_values.specs.declared.kind.«Type».TheVariants.{FixedLine, Mobile}
use Rattle.phone_values.specs.declared.kind.«Type».TheVariants.{FixedLineOrMobile}
use Rattle.phone_values.specs.declared.kind.«Type».TheVariants.{TollFree, PremiumRate, SharedCost}
use Rattle.phone_values.specs.declared.kind.«Type».TheVariants.{PersonalNumber, Voip, Pager, Uan}
use Rattle.phone_values.specs.declared.kind.«Type».TheVariants.{Voicemail, Unknown}
use Rattle.phone_territory.specs.First.{at_start}
use Rattle.phone_territory.specs.Records.{matches, pattern_of}
use Rattle.phone_records.specs.declared.loader.Descriptor.{Descriptor}
use Rattle.phone_records.specs.declared.loader.Metadata.{Metadata}

-- the descriptor is there and matches
abbrev pub is_of : Option Descriptor → List ℕ → Bool
is_of None digits = false
is_of (Some d) digits = matches d digits

-- the kinds in the order in which they are tried, each with its descriptor
abbrev pub tried_kinds : Metadata → List («Type» × Option Descriptor)
tried_kinds m =
    (PremiumRate, m.premium_rate) ∷ (TollFree, m.toll_free) ∷ (SharedCost, m.shared_cost) ∷
    (Voip, m.voip) ∷
    (PersonalNumber, m.personal_number) ∷ (Pager, m.pager) ∷ (Uan, m.uan) ∷
    (Voicemail, m.voicemail) ∷
    (FixedLine, m.fixed_line) ∷ (Mobile, m.mobile) ∷ []

-- fixed lines and mobiles have one pattern
abbrev pub is_one_pattern : Option Descriptor → Option Descriptor → Bool
is_one_pattern (Some d) (Some e) = bytes_eq (pattern_of d) (pattern_of e)
is_one_pattern _ _ = false

-- a fixed line may as well be a mobile where both have one pattern, or the mobile descriptor
-- matches too
abbrev pub line_or_mobile : Metadata → List ℕ → «Type» → «Type»
line_or_mobile m digits FixedLine = if is_one_pattern m.fixed_line m.mobile || is_of m.mobile digits
    then FixedLineOrMobile else FixedLine
line_or_mobile m digits kind = kind

-- the kind of a number of a territory: the first that matches, where the general descriptor does;
-- else unknown
abbrev pub type_of : Metadata → List ℕ → «Type»
type_of m digits =
    if is_of m.general digits
    then option_map_or (λ (k : «Type» × Option Descriptor). line_or_mobile m digits k.0)
    (find (λ (k : «Type» × Option Descriptor). is_of k.1 digits) (tried_kinds m)) Unknown
    else Unknown

-- a kind is known
abbrev pub is_known : «Type» → Bool
is_known Unknown = false
is_known kind = true

-- a number belongs to a territory whose leading digits match at its front, or to one without
-- leading digits where it is of a known kind
abbrev pub belongs_to : List ℕ → Metadata → Bool
belongs_to digits m = option_map_or (λ (pattern : List ℕ). at_start pattern digits) m.leading_digits
    (is_known (type_of m digits))
