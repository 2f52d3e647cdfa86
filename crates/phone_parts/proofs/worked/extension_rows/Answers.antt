use Rattle.std.proofs.Common.{[], ◌∷◌, ◌++◌, codes, refl, arith}
use Rattle.ucd_case.proofs.Computing.{ucd_case}
use Rattle.ucd_category.proofs.Computing.{ucd_category}
use Rattle.phone_parts.proofs.NaturalRows.{indicated_of, parameter_of, signed_of}
use Rattle.phone_parts.proofs.worked.extension_rows.Goals as goal

pub returns : goal.returns
unfolding ucd_case ucd_category
returns c = record {
  parameter = parameter_of (codes ";EXT=") (codes "12") refl refl;
  number_signed = signed_of (codes " - ") (codes "12") refl (omega arith) refl (omega arith);
  word = indicated_of (codes ", ") (codes "Exten" ++ 0x17F ∷ codes "ion") (codes ".") (codes " ") (codes "12") (codes "#") refl refl refl refl refl refl;
  wide_word = indicated_of [] (0xFF38 ∷ 0xFF34 ∷ 0xFF4E ∷ []) [] [] (0x661 ∷ []) [] refl refl refl refl refl refl;
  sign = indicated_of (codes ",") (codes ";") [] [] [] [] refl refl refl refl refl refl;
  other_word = indicated_of [] (codes "anexo") (codes ":") (codes "-") (codes "7") [] refl refl refl refl refl refl;
}
