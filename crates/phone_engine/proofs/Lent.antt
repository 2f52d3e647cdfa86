-- The lengths of descriptors that are lent.
use Rattle.std.proofs.Common.{◌≡◌, List, map, Bor, sym}
use Rattle.std.proofs.lemmas.List.Folds.{flat_map-map}
use Rattle.std.specs.List.{flat_map}
use Rattle.phone_records.specs.declared.loader.Descriptor.{Descriptor}

pub lengths_lent : (ds : List (Bor Descriptor)) →
    flat_map (λ (d : Bor Descriptor). d.now.possible_length) ds ≡ flat_map (λ (d : Descriptor). d.possible_length) (map (λ (d : Bor Descriptor). d.now) ds)
lengths_lent ds = sym (flat_map-map (λ (d : Descriptor). d.possible_length) (λ (d : Bor Descriptor). d.now) ds)

pub local_lengths_lent : (ds : List (Bor Descriptor)) →
    flat_map (λ (d : Bor Descriptor). d.now.possible_local_length) ds ≡ flat_map (λ (d : Descriptor). d.possible_local_length) (map (λ (d : Bor Descriptor). d.now) ds)
local_lengths_lent ds = sym (flat_map-map (λ (d : Descriptor). d.possible_local_length) (λ (d : Bor Descriptor). d.now) ds)
