-- The first kind that matches, found among the kinds alone.
use Rattle.std.proofs.Common.{◌≡◌, ◌∙◌, ℕ, Bool, true, false, if◌then◌else◌, List, [], ◌∷◌, map, Option, None, Some, option_map, refl, ap, sym, cond}
use Rattle.std.specs.List.{find}
use Rattle.std.specs.Option.{option_map_or}
use Rattle.phone_values.specs.declared.kind.«Type».{«Type»}
use Rattle.phone_values.specs.declared.kind.«Type».TheVariants.{Unknown}
use Rattle.phone_territory.specs.Kinds.{descriptor_for, kinds_of}
use Rattle.phone_records.specs.declared.loader.Descriptor.{Descriptor}
use Rattle.phone_records.specs.declared.loader.Metadata.{Metadata}
use Rattle.phone_read.specs.Kinds.{is_of}
use Rattle.phone_read.specs.Kinds.{line_or_mobile, type_of}
use Rattle.phone_read.specs.declared.kinds.TheConstants.{TRIED}

passed_on : {X Y : Type 0} (f : X → Y) (x : X) (b : Bool) (o : Option Y) (u : Option X) → o ≡ option_map f u → cond b (Some (f x)) o ≡ option_map f (cond b (Some x) u)
passed_on f x true o u h = refl
passed_on f x false o u h = h

-- to find in a list of values is to find among what they are made of
pub find-map : {X Y : Type 0} (f : X → Y) (p : Y → Bool) (xs : List X) → find p (map f xs) ≡ option_map f (find (λ x. p (f x)) xs)
find-map f p [] = refl
find-map f p (x ∷ xs) = passed_on f x (p (f x)) (find p (map f xs)) (find (λ x. p (f x)) xs) (find-map f p xs)

-- what is made of an option in two steps
option_map_or-option_map : {X Y Z : Type 0} (f : X → Y) (g : Y → Z) (o : Option X) (z : Z) → option_map_or g (option_map f o) z ≡ option_map_or (λ x. g (f x)) o z
option_map_or-option_map f g None z = refl
option_map_or-option_map f g (Some x) z = refl

-- whether a text is of a kind
abbrev pub is_of_kind : Metadata → List ℕ → «Type» → Bool
is_of_kind m digits k = is_of (descriptor_for k (kinds_of m)) digits

-- the kind is told by the first of those tried
type_of-tried : (m : Metadata) (digits : List ℕ) →
    type_of m digits ≡ (if is_of m.general digits then option_map_or (line_or_mobile m digits) (find (is_of_kind m digits) TRIED) Unknown else Unknown)
type_of-tried m digits =
    let with_descriptor : «Type» → «Type» × Option Descriptor = λ k. (k, descriptor_for k (kinds_of m)) in
    let told = λ (k : «Type» × Option Descriptor). line_or_mobile m digits k.0 in
    ap (λ (o : Option («Type» × Option Descriptor)). if is_of m.general digits then option_map_or told o Unknown else Unknown)
    (find-map with_descriptor (λ (k : «Type» × Option Descriptor). is_of k.1 digits) TRIED)
    ∙ ap (λ k. if is_of m.general digits then k else Unknown) (option_map_or-option_map with_descriptor told (find (is_of_kind m digits) TRIED) Unknown)

module _ (m : Metadata) (digits : List ℕ) (general : is_of m.general digits ≡ true) where
  -- by the first that matches
  pub type_of-found : (k : «Type») → Some k ≡ find (is_of_kind m digits) TRIED → type_of m digits ≡ line_or_mobile m digits k
  type_of-found k found =
      type_of-tried m digits
      ∙ ap (λ b. if b then option_map_or (line_or_mobile m digits) (find (is_of_kind m digits) TRIED) Unknown else Unknown) general
      ∙ ap (λ o. option_map_or (line_or_mobile m digits) o Unknown) (sym found)

  -- none matches
  pub type_of-none : None ≡ find (is_of_kind m digits) TRIED → type_of m digits ≡ Unknown
  type_of-none none =
      type_of-tried m digits
      ∙ ap (λ b. if b then option_map_or (line_or_mobile m digits) (find (is_of_kind m digits) TRIED) Unknown else Unknown) general
      ∙ ap (λ o. option_map_or (line_or_mobile m digits) o Unknown) (sym none)
