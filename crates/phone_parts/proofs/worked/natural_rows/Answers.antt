use Rattle.std.proofs.Common.{[], codes, refl, arith}
use Rattle.ucd_case.proofs.Computing.{ucd_case}
use Rattle.ucd_category.proofs.Computing.{ucd_category}
use Rattle.phone_parts.specs.Naturals
use Rattle.phone_parts.specs.declared.suffix.Form.TheVariants.{Parameter, Indicated, NumberSign}
use Rattle.phone_parts.proofs.CoreRows.{no_core, no_mark}
use Rattle.phone_parts.proofs.NaturalRows.{indicated_of, parameter_of, parted_of, plain_of, signed_of}
use Rattle.phone_parts.proofs.SuffixTests.{fails_at}
use Rattle.phone_parts.proofs.worked.natural_rows.Goals as goal

pub returns : goal.returns
unfolding ucd_case ucd_category no_mark fails_at
returns c = record {
  whole_text = plain_of (codes "650253") refl refl refl refl;
  spaced = parted_of (codes "650 253 0000") (codes " extn. 4567") (codes "4567") refl refl refl refl
      (Indicated, indicated_of (codes " ") (codes "extn") (codes ".") (codes " ") (codes "4567") [] refl refl refl refl refl refl);
  no_digits = parted_of (codes "+64 3 331 6005") (codes "x") [] refl refl refl refl
      (Indicated, indicated_of [] (codes "x") [] [] [] [] refl refl refl refl refl refl);
  extended = parted_of (codes "+64331") (codes "x12") (codes "12") refl refl refl refl
      (Indicated, indicated_of [] (codes "x") [] [] (codes "12") [] refl refl refl refl refl refl);
  parameter = parted_of (codes "650") (codes ";ext=5") (codes "5") refl refl refl refl
      (Parameter, parameter_of (codes ";ext=") (codes "5") refl refl);
  sign = parted_of (codes "650") (codes " 5#") (codes "5") refl refl refl refl
      (NumberSign, signed_of (codes " ") (codes "5") refl (omega arith) refl (omega arith));
  longer_sign = parted_of (codes "+64 3 331") (codes " 6005#") (codes "6005") refl refl refl refl
      (NumberSign, signed_of (codes " ") (codes "6005") refl (omega arith) refl (omega arith));
  no_number = Naturals.nothing (no_core (codes "Num-....") refl);
  no_digit = Naturals.nothing (no_core (codes "+") refl);
}
