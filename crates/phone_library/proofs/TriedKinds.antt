-- The first kind whose descriptor has digits, found among the kinds alone.
use Rattle.std.proofs.Common.{◌≡◌, ◌∙◌, ℕ, Bool, true, if◌then◌else◌, List, Option, None, Some, option_map, refl, ap, sym}
use Rattle.std.specs.List.{find}
use Rattle.std.specs.Option.{option_map_or}
use Rattle.phone_values.specs.declared.kind.«Type».{«Type»}
use Rattle.phone_values.specs.declared.kind.«Type».TheVariants.{Unknown}
use Rattle.phone_read.proofs.TriedKinds.{find-map}
use Rattle.phone_library.specs.Kinds.{is_number_of, kind_in, line_or_mobile}
use Rattle.phone_read.specs.declared.kinds.TheConstants.{TRIED}
use Rattle.phone_records.specs.declared.loader.Descriptor.{Descriptor}
use Rattle.phone_records.specs.declared.loader.Metadata.{Metadata}
use Rattle.phone_territory.specs.Kinds.{descriptor_for, kinds_of}

option_map_or-map : {X Y Z : Type 0} (f : X → Y) (g : Y → Z) (o : Option X) (z : Z) → option_map_or g (option_map f o) z ≡ option_map_or (λ x. g (f x)) o z
option_map_or-map f g None z = refl
option_map_or-map f g (Some x) z = refl

-- whether digits are of a kind
abbrev pub is_of_kind : Metadata → List ℕ → «Type» → Bool
is_of_kind m digits k = is_number_of (descriptor_for k (kinds_of m)) digits

-- the kind is told by the first of those tried
kind_in-tried : (m : Metadata) (digits : List ℕ) →
    kind_in m digits ≡ (if is_number_of m.general digits then option_map_or (line_or_mobile m digits) (find (is_of_kind m digits) TRIED) Unknown else Unknown)
kind_in-tried m digits =
    let with_descriptor : «Type» → «Type» × Option Descriptor = λ k. (k, descriptor_for k (kinds_of m)) in
    let told = λ (k : «Type» × Option Descriptor). line_or_mobile m digits k.0 in
    ap (λ (o : Option («Type» × Option Descriptor)). if is_number_of m.general digits then option_map_or told o Unknown else Unknown)
    (find-map with_descriptor (λ (k : «Type» × Option Descriptor). is_number_of k.1 digits) TRIED)
    ∙ ap (λ k. if is_number_of m.general digits then k else Unknown) (option_map_or-map with_descriptor told (find (is_of_kind m digits) TRIED) Unknown)

module _ (m : Metadata) (digits : List ℕ) (general : is_number_of m.general digits ≡ true) where
  by_tried : (o : Option «Type») → o ≡ find (is_of_kind m digits) TRIED → kind_in m digits ≡ option_map_or (line_or_mobile m digits) o Unknown
  by_tried o found =
      kind_in-tried m digits
      ∙ ap (λ b. if b then option_map_or (line_or_mobile m digits) (find (is_of_kind m digits) TRIED) Unknown else Unknown) general
      ∙ ap (λ o. option_map_or (line_or_mobile m digits) o Unknown) (sym found)

  -- by the first that has them
  pub kind_in-found : (k : «Type») → Some k ≡ find (is_of_kind m digits) TRIED → kind_in m digits ≡ line_or_mobile m digits k
  kind_in-found k found = by_tried (Some k) found

  -- none has them
  pub kind_in-none : None ≡ find (is_of_kind m digits) TRIED → kind_in m digits ≡ Unknown
  kind_in-none none = by_tried None none
