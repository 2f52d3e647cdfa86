use Rattle.std.proofs.Common.{refl, arith, inl, inr}
use Rattle.std.specs.Fmt.{digits}
use Rattle.std.specs.Str.{chars}
use Rattle.phone_values.specs.Ids.{id_of, name}
use Rattle.headline_examples.proofs.ByText.{international, is_plain, rfc3966}
use Rattle.headline_examples.proofs.Laid.{ad_laid}
use Rattle.headline_examples.specs.Samples.{ad}
use Rattle.headline_examples.proofs.plain.with_extension.Goals as goal

pub returns : goal.returns
unfolding digits chars id_of name
returns c = record {
  e164 = (ad, is_plain refl refl);
  rfc3966 = rfc3966 ad ad_laid (is_plain refl refl) refl refl;
  international = international ad ad_laid (is_plain refl refl) refl (omega arith) refl refl;
  benign = inl refl;
  idle = inr (ad, refl, refl);
}
