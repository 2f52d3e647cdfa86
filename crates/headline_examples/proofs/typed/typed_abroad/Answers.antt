use Rattle.std.proofs.Common.{None, codes, refl, ap}
use Rattle.std.specs.Fmt.{digits}
use Rattle.phone_typed.specs.Keys.{shows}
use Rattle.headline_examples.proofs.Laid.{nz_laid, nz_suits, nz_whole}
use Rattle.headline_examples.specs.Samples.{nz_layout}
use Rattle.headline_examples.proofs.typed.typed_abroad.Goals as goal

pub returns : goal.returns
unfolding digits
returns c = record {
  code = refl;
  territory = refl;
  plain = record {
    no_extension = refl;
    no_carrier = refl;
    layout = nz_layout;
    first = nz_suits;
    whole = nz_whole;
    shown = ap (shows (codes "33316005")) (nz_laid None);
    long_enough = refl;
  };
}
