use Rattle.std.proofs.Common.{ap, ◌∙◌}
use Rattle.std.proofs.lemmas.Iterator.{YieldsList-from_chars, YieldsList-from_take, text_from_collect}
use Rattle.std.specs.Str.Iter.{chars_rest}
use Rattle.phone_answers.proofs.parts.first_of.Goals as goal

pub returns : goal.returns
returns c = text_from_collect c.collect.result c.collect.ensures.ran
    (YieldsList-from_take c.args.count (YieldsList-from_chars c.args.text.now c.utf8.text (ap chars_rest c.take.ensures.source ∙ c.chars.ensures.rest)) c.take.ensures.count)
