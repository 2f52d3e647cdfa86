use Rattle.std.proofs.Common.{◌≡◌, ℕ, List, length, codes, None, refl, ap, arith, inr}
use Rattle.std.specs.Fmt.{digits}
use Rattle.std.specs.Str.{chars}
use Rattle.phone_values.specs.Ids.{id_of, name}
use Rattle.headline_examples.proofs.ByText.{is_plain, not_international, not_rfc3966}
use Rattle.headline_examples.proofs.Laid.{am_laid}
use Rattle.headline_examples.specs.Samples.{am, db_c, number}
use Rattle.headline_examples.proofs.needed.digits_dropped.Goals as goal

other : ¬ (codes "number" ≡ codes "12345678")
other e = let six : 6 ≡ 8 = ap (λ (t : List ℕ). length t) e in omega (arith, six)

pub returns : goal.returns
unfolding digits chars id_of name
returns c = record {
  e164 = (am, is_plain refl refl);
  rfc3966 = not_rfc3966 db_c (number 374 0 12345678 None) am refl _ am_laid other;
  international = not_international db_c (number 374 0 12345678 None) am refl _ am_laid other;
  idle = inr (am, refl, refl);
}
