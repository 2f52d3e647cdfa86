use Rattle.std.proofs.Common.{◌≤◌, codes, Some, refl, sym, true≢false, arith}
use Rattle.std.specs.Fmt.{digits}
use Rattle.std.specs.Str.{chars}
use Rattle.headline_examples.proofs.ByText.{is_plain, rfc3966}
use Rattle.headline_examples.proofs.Laid.{nz_laid}
use Rattle.headline_examples.specs.Samples.{nz}
use Rattle.headline_examples.proofs.needed.extensions.Goals as goal

pub returns : goal.returns
unfolding digits chars
returns c = record {
  eight = λ h. let many : 8 ≤ 7 = h.few_digits in omega (arith, many);
  eight_rfc3966 = rfc3966 nz (nz_laid (Some (codes "12345678"))) (is_plain refl refl) refl refl;
  other = λ h. true≢false (sym h.extension);
  other_rfc3966 = λ h. true≢false (sym h.extension);
}
