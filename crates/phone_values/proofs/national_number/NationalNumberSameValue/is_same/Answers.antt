use Rattle.std.proofs.Common.{ap, sym, eqb-true, eq-eqb, ◌∙◌}
use Rattle.phone_values.specs.Numbers.{packed}
use Rattle.phone_values.proofs.ReadBack.{packed-injective}
use Rattle.phone_values.proofs.national_number.NationalNumberSameValue.is_same.Goals as goal

pub returns : goal.returns
returns c =
    let a = c.args.self.now in
    let b = c.args.other.now in (
      λ is. packed-injective a b c.keeps_bounds.ensures c.keeps_bounds-2.ensures (eqb-true (packed a) (packed b) (sym c.eq.ensures ∙ is)),
      λ e. c.eq.ensures ∙ eq-eqb (packed a) (packed b) (ap packed e),
    )
