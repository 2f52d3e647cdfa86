use Rattle.std.proofs.Common.{arith, sym, ◌∙◌, None}
use Rattle.std.proofs.lemmas.Str.Pattern.{strip_prefix_char}
use Rattle.phone_typed.proofs.HomeTexts.{typed_short}
use Rattle.phone_typed.proofs.texts.is_shown_as_it_is.Goals as goal

pub returns-in-None : goal.returns-in-None
returns-in-None c short db hint =
    typed_short db hint c.args.keys.now (strip_prefix_char 43 c.args.keys.now None c.in-None.ensures.cases (omega arith)) (sym c.is_short.ensures ∙ short)
