use Rattle.std.proofs.Common.{codes, Some, refl, arith, inr}
use Rattle.std.specs.Fmt.{digits}
use Rattle.std.specs.Str.{chars}
use Rattle.phone_values.specs.Ids.{id_of, name}
use Rattle.headline_examples.proofs.ByText.{international, is_plain, not_behind_digit, not_known}
use Rattle.headline_examples.proofs.Laid.{at_by_x_laid, spaced_laid}
use Rattle.headline_examples.specs.Samples.{al_by_e, at_by_x, number}
use Rattle.headline_examples.proofs.needed.announced_otherwise.Goals as goal

pub returns : goal.returns
unfolding digits chars id_of name
returns c = record {
  by_a_letter = not_known al_by_e (number 355 0 123456 (Some (codes "5"))) refl;
  by_a_letter_plain =
      international al_by_e (spaced_laid (codes "AL") 355 (codes " e ") (Some (codes "5"))) (is_plain refl refl) refl (omega arith) refl refl;
  by_a_letter_idle = inr (al_by_e, refl, refl);
  behind_a_slash = not_behind_digit at_by_x (number 43 0 123456 (Some (codes "5"))) refl (at_by_x_laid (Some (codes "5"))) refl;
  behind_a_slash_plain =
      international at_by_x (at_by_x_laid (Some (codes "5"))) (is_plain refl refl) refl (omega arith) refl refl;
  behind_a_slash_idle = inr (at_by_x, refl, refl);
}
