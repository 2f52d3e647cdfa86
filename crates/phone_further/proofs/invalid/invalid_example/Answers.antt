use Rattle.std.proofs.Common.{ap, sym, ◌∙◌}
use Rattle.std.specs.Option.{option_copied}
use Rattle.phone_read.proofs.Results.{ok_again}
use Rattle.phone_further.specs.Invalid
use Rattle.phone_further.proofs.invalid.invalid_example.Goals as goal

pub returns-in-Some : goal.returns-in-Some
returns-in-Some c =
    ok_again c.first_invalid.result _ _
    (λ found h. Invalid.made c.in-Some.text.now found (sym c.fixed_line_example.ensures ∙ ap option_copied c.in-Some.is) (h c.args.region c.hint_territory.ensures))
    c.first_invalid.ensures

pub returns-in-None : goal.returns-in-None
returns-in-None c = Invalid.no_example (sym c.fixed_line_example.ensures ∙ ap option_copied c.in-None.is)
