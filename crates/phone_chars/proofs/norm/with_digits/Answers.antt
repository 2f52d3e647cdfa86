use Rattle.std.proofs.Common.{rules, ap, ◌∙◌}
use Rattle.std.specs.Str.Iter.{chars_rest}
use Rattle.std.proofs.lemmas.Iterator.{YieldsList-from_chars}
use Rattle.std.proofs.lemmas.Iterator.Adapters.{items_from_extend}
use Rattle.std.proofs.lemmas.Iterator.Consumers.{YieldsList-from_filter_map}
use Rattle.phone_chars.specs.Characters.{digit_of}
use Rattle.phone_chars.proofs.norm.with_digits.Goals as goal

pub returns : goal.returns
returns c =
    let every = YieldsList-from_chars c.args.text.now c.utf8.text (ap chars_rest c.filter_map.ensures.source ∙ c.chars.ensures.rest) in
    let all = items_from_extend c.extend.result c.extend.ensures.ran
    (YieldsList-from_filter_map _ digit_of every c.filter_map.ensures.closure (λ x r q h. search (rules, h))) in
    let whole = rw c.in_ok-extend.was at all in
    search (rules, whole)
