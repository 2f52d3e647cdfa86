use Rattle.std.proofs.Common.{[], ◌∙◌, Err, ap, sym}
use Rattle.phone_words.specs.Parts.{all_said, before_said, parts_from}
use Rattle.phone_words.proofs.parts.ended.Goals as goal

pub returns-in-Wanting-clause-refused : goal.returns-in-Wanting-clause-refused
returns-in-Wanting-clause-refused c words =
    ap (λ b. parts_from words [] (all_said c.args.parts.items) (before_said b)) c.in-Wanting.is
    ∙ ap Err (sym c.error_at.ensures.fault)
