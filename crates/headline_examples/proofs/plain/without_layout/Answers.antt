use Rattle.std.proofs.Common.{None, codes, refl}
use Rattle.std.specs.Fmt.{digits}
use Rattle.headline_examples.proofs.ByText.{is_plain}
use Rattle.headline_examples.specs.Samples.{bare_ad, numbers}
use Rattle.headline_examples.proofs.plain.without_layout.Goals as goal

pub returns : goal.returns
unfolding digits
returns c = record {
  plain = (bare_ad, is_plain refl refl);
  layout = refl;
  thin = record {
    general = numbers (codes "\\d{6}") 6;
    id = codes "AD";
    code = 376;
    national_prefix = None;
    whole = refl;
  };
  text = refl;
}
