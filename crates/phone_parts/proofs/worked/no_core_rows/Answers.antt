use Rattle.std.proofs.Common.{[], codes, refl}
use Rattle.ucd_category.proofs.Computing.{ucd_category}
use Rattle.phone_parts.proofs.CoreRows.{no_core}
use Rattle.phone_parts.proofs.worked.no_core_rows.Goals as goal

pub returns : goal.returns
unfolding ucd_category
returns c = record { no_start = no_core (codes "Num-....") refl; sign_alone = no_core (codes "+") refl; nothing = no_core [] refl }
