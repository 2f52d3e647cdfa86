use Rattle.std.proofs.Common.{◌≡◌, Bool, false, if◌then◌else◌, codes, None, Option}
use Rattle.std.proofs.Common.{Some, refl, ap}
use Rattle.std.specs.Fmt.{digits}
use Rattle.std.specs.Option.{option_map_or}
use Rattle.phone_values.specs.declared.kind.«Type».{«Type»}
use Rattle.phone_values.specs.declared.kind.«Type».TheVariants.{TollFree, Unknown}
use Rattle.phone_library.specs.Kinds as library_kinds
use Rattle.phone_records.specs.declared.loader.Descriptor.{Descriptor}
use Rattle.phone_read.specs.Kinds as crate_kinds
use Rattle.phone_read.specs.Kinds.{is_known}
use Rattle.phone_territory.specs.Kinds.{descriptor_for, kinds_of}
use Rattle.phone_engine.specs.Possibilities.{lists_lengths}
use Rattle.headline_examples.proofs.Laid.{eight_front, eight_whole}
use Rattle.headline_examples.specs.Samples.{free_phone}
use Rattle.headline_examples.proofs.told.valid_number.Goals as goal

-- the first kind whose pattern matches, where that of free numbers does, as the general one does
abbrev free_if : Bool → Option («Type» × Option Descriptor)
free_if b = if b then Some (TollFree, free_phone.toll_free) else None

crate_kind : crate_kinds.type_of free_phone (codes "12345678") ≡ TollFree
crate_kind = ap (λ b. if b then option_map_or (λ (k : «Type» × Option Descriptor).
    crate_kinds.line_or_mobile free_phone (codes "12345678") k.0) (free_if b) Unknown else Unknown)
    eight_front

library_kind : library_kinds.kind_in free_phone (codes "12345678") ≡ TollFree
library_kind = ap (λ b. if b then option_map_or (λ (k : «Type» × Option Descriptor).
    library_kinds.line_or_mobile free_phone (codes "12345678") k.0) (free_if b) Unknown else Unknown)
    eight_whole

pub returns : goal.returns
unfolding digits
returns c = record {
  by_crate = ap is_known crate_kind;
  listed = ap (λ (k : «Type»). option_map_or lists_lengths
      (descriptor_for k (kinds_of free_phone)) false) crate_kind;
  by_library = ap is_known library_kind;
  territory = refl;
  first = refl;
  ascending = refl;
}
