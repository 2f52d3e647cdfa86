use Rattle.std.proofs.Common.{None, refl, inr}
use Rattle.std.specs.Fmt.{digits}
use Rattle.std.specs.Str.{chars}
use Rattle.phone_values.specs.Ids.{id_of, name}
use Rattle.headline_examples.proofs.ByText.{announced, is_plain, rfc3966}
use Rattle.headline_examples.proofs.Laid.{at_laid}
use Rattle.headline_examples.specs.Samples.{at, db_c, number}
use Rattle.headline_examples.proofs.needed.announced_by_layout.Goals as goal

pub returns : goal.returns
unfolding digits chars id_of name
returns c = record {
  e164 = (at, is_plain refl refl);
  rfc3966 = rfc3966 at at_laid (is_plain refl refl) refl refl;
  international = announced db_c (number 43 0 123456 None) at refl _ at_laid refl;
  idle = inr (at, refl, refl);
}
