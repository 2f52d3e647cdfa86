-- Which kinds of number a territory has, and which of them are of a place: as libphonenumber tells.
use Rattle.std.specs.Prelude.{ℕ, ◌==◌, ◌||◌, Bool, false, true, if◌then◌else◌, List, [], ◌∷◌}
use Rattle.std.specs.Prelude.{filter, is_some, Option, None, Some, codes}
use Rattle.std.specs.List.{list_any}
use Rattle.std.specs.Option.{option_and_then, option_map_or}
use Rattle.phone_values.specs.declared.country.Id.{Id}
use Rattle.phone_values.specs.declared.kind.«Type».{«Type»}
use Rattle.phone_values.specs.declared.kind.«Type».TheVariants.{FixedLine, Mobile}
use Rattle.phone_values.specs.declared.kind.«Type».TheVariants.{FixedLineOrMobile}
use Rattle.phone_values.specs.declared.kind.«Type».TheVariants.{TollFree, PremiumRate, SharedCost}
use Rattle.phone_values.specs.declared.kind.«Type».TheVariants.{Voip, PersonalNumber, Pager, Uan}
use Rattle.phone_values.specs.declared.kind.«Type».TheVariants.{Voicemail}
use Rattle.phone_plans.specs.CodeLookUps.{first_of, territories}
use Rattle.phone_records.specs.declared.loader.Metadata.{Metadata}
use Rattle.phone_territory.specs.Kinds.{descriptor_for, kinds_of}
use Rattle.phone_questions.specs.Regions.{is_worldwide, territory_of}

-- the kinds that are listed, in the order in which they are
abbrev pub listed_kinds : List «Type»
listed_kinds =
    FixedLine ∷ Mobile ∷ TollFree ∷ PremiumRate ∷ SharedCost ∷ Voip ∷ PersonalNumber ∷ Pager ∷ Uan ∷
    Voicemail ∷ []

-- a territory has numbers of a kind: it has a descriptor of it
abbrev pub has_kind : Metadata → «Type» → Bool
has_kind m kind = is_some (descriptor_for kind (kinds_of m))

-- the kinds that a territory has numbers of
abbrev pub kinds_in : Metadata → List «Type»
kinds_in m = filter (has_kind m) listed_kinds

-- the kinds of a region; none without a territory
abbrev pub kinds_of_region : List Metadata → Id → List «Type»
kinds_of_region db region = option_map_or kinds_in (territory_of db region) []

-- the kinds of a territory that is no region's
abbrev pub kinds_if_worldwide : Metadata → List «Type»
kinds_if_worldwide m = if is_worldwide m then kinds_in m else []

-- the kinds of a calling code that serves no region: those of its first territory
abbrev pub kinds_of_code : List Metadata → ℕ → List «Type»
kinds_of_code db code = option_map_or kinds_if_worldwide (first_of (territories code db)) []

-- the codes whose mobile numbers have an area: Mexico, Argentina, Brazil, Indonesia, China
abbrev pub has_mobile_areas : ℕ → Bool
has_mobile_areas code = list_any (λ c. c == code) (52 ∷ 54 ∷ 55 ∷ 62 ∷ 86 ∷ [])

-- numbers of a place: fixed lines, those that may be mobiles too, and mobiles that have an area
abbrev pub is_geographical_kind : «Type» → ℕ → Bool
is_geographical_kind FixedLine code = true
is_geographical_kind FixedLineOrMobile code = true
is_geographical_kind Mobile code = has_mobile_areas code
is_geographical_kind kind code = false

-- what stands before the area code of a mobile number: `9` in Argentina, elsewhere nothing
abbrev pub mobile_token : ℕ → List ℕ
mobile_token code = if code == 54 then codes "9" else []
