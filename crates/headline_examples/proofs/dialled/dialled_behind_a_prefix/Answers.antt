use Rattle.std.proofs.Common.{None, Some, codes, refl, arith, inl}
use Rattle.std.specs.Fmt.{digits}
use Rattle.std.specs.Str.{chars}
use Rattle.phone_values.specs.Ids.{id_of, name}
use Rattle.phone_plans.specs.CodeLookUps.{begins}
use Rattle.headline_examples.proofs.ByText.{international, is_plain}
use Rattle.headline_examples.proofs.Laid.{nz_laid}
use Rattle.headline_examples.proofs.Prefixed.{us_prefix}
use Rattle.headline_examples.proofs.NewZealand.{nz_plain, nz_settled}
use Rattle.phone_values.specs.declared.rules.Rules.TheVariants.{Crate}
use Rattle.headline_examples.specs.Samples.{nz, us}
use Rattle.headline_examples.proofs.dialled.dialled_behind_a_prefix.Goals as goal

pub returns : goal.returns
unfolding digits chars id_of name begins
returns c = record {
  by_crate = (
    record {
      from = us;
      hinted = refl;
      other_code = refl;
      plain = international nz (nz_laid None) (is_plain refl refl) refl (omega arith) refl refl;
      announced = inl refl;
      some_code = omega arith;
      few_digits = omega arith;
      prefix_free = refl;
      idle = refl;
    },
    record { prefix = codes "011"; dialled = refl; digits = refl; found = us_prefix },
  );
  by_library = (
    record {
      from = us;
      hinted = refl;
      other_code = refl;
      settled = nz_settled (Some (codes "5"));
      plain = nz_plain Crate;
    },
    record { prefix = codes "011"; dialled = refl; digits = refl; found = us_prefix },
  );
}
