use Rattle.std.proofs.Common.{[], codes, Some, refl, arith, inr}
use Rattle.std.specs.Fmt.{digits}
use Rattle.std.specs.Str.{chars}
use Rattle.phone_values.specs.Ids.{id_of, name}
use Rattle.headline_examples.proofs.ByText.{benign, international, is_plain}
use Rattle.headline_examples.proofs.Laid.{spaced_laid}
use Rattle.headline_examples.specs.Samples.{ad_by_x, number}
use Rattle.headline_examples.proofs.plain.announced_by_x.Goals as goal

pub returns : goal.returns
unfolding digits chars id_of name
returns c =
    let laid = spaced_laid (codes "AD") 376 (codes " x") in
    record {
      international = international ad_by_x (laid (Some (codes "5"))) (is_plain refl refl) refl (omega arith) refl refl;
      benign = benign ad_by_x (number 376 0 123456 (Some (codes "5"))) (laid (Some (codes "5"))) refl refl;
      empty = international ad_by_x (laid (Some [])) (is_plain refl refl) refl (omega arith) refl refl;
      empty_benign = benign ad_by_x (number 376 0 123456 (Some [])) (laid (Some [])) refl refl;
      idle = inr (ad_by_x, refl, refl);
    }
