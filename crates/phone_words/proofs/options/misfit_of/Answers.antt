use Rattle.std.proofs.Common.{◌∙◌, ap, sym}
use Rattle.phone_words.specs.Calls.{misfit_of}
use Rattle.phone_words.specs.Parts.{all_said, said}
use Rattle.phone_words.proofs.options.misfit_of.Goals as goal

pub returns-in-Given : goal.returns-in-Given
returns-in-Given c =
    c.misfit_of_row.ensures
    ∙ ap (λ p. misfit_of (all_said c.args.parts.now) (said p)) (sym c.in-Given.is)
