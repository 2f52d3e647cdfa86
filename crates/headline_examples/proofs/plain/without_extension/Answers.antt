use Rattle.std.proofs.Common.{None, refl, arith, inr}
use Rattle.std.specs.Fmt.{digits}
use Rattle.std.specs.Str.{chars}
use Rattle.phone_values.specs.Ids.{id_of, name}
use Rattle.headline_examples.proofs.ByText.{international, is_plain, rfc3966}
use Rattle.headline_examples.proofs.Laid.{nz_laid}
use Rattle.headline_examples.specs.Samples.{nz}
use Rattle.headline_examples.proofs.plain.without_extension.Goals as goal

pub returns : goal.returns
unfolding digits chars id_of name
returns c = record {
  e164 = (nz, is_plain refl refl);
  rfc3966 = rfc3966 nz (nz_laid None) (is_plain refl refl) refl refl;
  international = international nz (nz_laid None) (is_plain refl refl) refl (omega arith) refl refl;
  idle = inr (nz, refl, refl);
}
