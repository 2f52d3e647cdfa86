use Rattle.std.proofs.Common.{inr, [], ◌∷◌, codes, refl}
use Rattle.ucd_category.proofs.Computing.{ucd_category}
use Rattle.phone_parts.proofs.CoreRows.{before_mark, no_mark, no_second}
use Rattle.phone_parts.proofs.Cores.{core_of}
use Rattle.phone_parts.proofs.worked.core_rows.Goals as goal

pub returns : goal.returns
unfolding ucd_category no_mark
returns c = record {
  brackets = core_of (codes "(") (codes "650) 253-0000") (codes "..- ..") _ refl refl refl refl (no_second _ refl) (λ e. cc);
  words = core_of (codes "Tel:") (codes "+800-345-600") [] _ refl refl refl refl (no_second _ refl) (λ e. cc);
  mark = core_of (0x28 ∷ []) (codes "650) 253-0000") (0x200F ∷ []) _ refl refl refl refl (no_second _ refl) (λ e. cc);
  wide = core_of (codes "Num-") (0xFF11 ∷ 0xFF12 ∷ 0xFF13 ∷ []) [] _ refl refl refl refl (no_second _ refl) (λ e. cc);
  second_number = core_of [] (codes "508/x30") [] _ refl refl refl refl (before_mark (codes "508") (codes "/x30") refl (inr refl)) (λ e. cc);
}
