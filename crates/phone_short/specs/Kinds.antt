-- Which texts are short numbers of a region, by the region's record.
use Rattle.std.specs.Prelude.{ℕ, ◌&&◌, if◌then◌else◌, List, Option, None, Some, codes}
use Rattle.phone_records.specs.declared.loader.Metadata.{Metadata}
use Rattle.phone_short.specs.Emergencies.{is_emergency_in}
use Rattle.phone_short.specs.Numbers.{is_valid}
use Rattle.phone_short.specs.Texts.{digits_in, is_dialled_within}
use Rattle.phone_short.specs.declared.kind.ShortKind.{ShortKind}
use Rattle.phone_short.specs.declared.kind.ShortKind.TheVariants.{Emergency, ShortNumber}

-- an emergency number, before all else; else a short number where the text is dialled within the
-- region and its digits are valid
abbrev pub kind_in : Metadata → List ℕ → Option ShortKind
kind_in m t =
    if is_emergency_in m t then Some Emergency
    else if is_dialled_within t && is_valid m (digits_in t) then Some ShortNumber
    else None

-- the name of a kind
abbrev pub kind_name : ShortKind → List ℕ
kind_name ShortNumber = codes "ShortNumber"
kind_name Emergency = codes "Emergency"
