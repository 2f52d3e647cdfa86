use Rattle.std.proofs.Common.{ap, sym, ◌∙◌}
use Rattle.std.specs.Ordering.{is_lt}
use Rattle.phone_places.proofs.Rising.{lt_less}
use Rattle.phone_places.proofs.countries.is_below.Goals as goal

pub returns : goal.returns
returns c =
    let e = c.is_lt.ensures ∙ ap is_lt (rw c.as_str.ensures.value at c.cmp.ensures) in
    let both = lt_less _ in ((λ t. both.0 (sym e ∙ t)), (λ h. e ∙ both.1 h))
