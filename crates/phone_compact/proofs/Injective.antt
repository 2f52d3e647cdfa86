-- Records are determined by the bytes that they are written as.
use Rattle.std.proofs.Common.{◌≡◌, ap, List, [], ◌++◌}
use Rattle.std.proofs.lemmas.List.{append_cancel_left}
use Rattle.phone_records.specs.declared.loader.Metadata.{Metadata}
use Rattle.phone_compact.specs.Forms.{items}
use Rattle.phone_compact.specs.Records.{metadata, first_line, written}
use Rattle.phone_compact.specs.Unique.{items_unique}
use Rattle.phone_compact.specs.RecordsUnique.{metadata_unique}

pub written_injective : (a b : List Metadata) → written a ≡ written b → a ≡ b
written_injective a b e =
    let after : (items metadata).written a ≡ (items metadata).written b = append_cancel_left first_line _ _ e in
    let ends = ap (λ bs. bs ++ []) after in
    (items_unique metadata metadata_unique a b [] [] ends).0
