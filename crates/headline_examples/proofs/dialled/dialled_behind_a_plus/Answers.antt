use Rattle.phone_read.specs.Dialling.{after_match}
use Rattle.std.proofs.Common.{None, ap, codes, refl, arith, inl}
use Rattle.std.specs.Fmt.{digits}
use Rattle.std.specs.Str.{chars}
use Rattle.phone_values.specs.Ids.{id_of, name}
use Rattle.phone_plans.specs.CodeLookUps.{begins}
use Rattle.headline_examples.proofs.ByText.{international, is_plain}
use Rattle.headline_examples.proofs.Laid.{nz_laid}
use Rattle.headline_examples.proofs.Prefixed.{kp_prefixes}
use Rattle.headline_examples.specs.Samples.{kp, nz}
use Rattle.headline_examples.proofs.dialled.dialled_behind_a_plus.Goals as goal

pub returns : goal.returns
unfolding digits chars id_of name begins
returns c = (
  record {
    from = kp;
    hinted = refl;
    other_code = refl;
    plain = international nz (nz_laid None) (is_plain refl refl) refl (omega arith) refl refl;
    announced = inl refl;
    some_code = omega arith;
    few_digits = omega arith;
    prefix_free = refl;
    idle = refl;
  },
  record { dialled = refl; not_found = ap (after_match (codes "6433316005")) kp_prefixes },
)
