use Rattle.std.proofs.Common.{rules, ap, ◌∙◌}
use Rattle.std.specs.Str.{chars}
use Rattle.std.specs.Str.Iter.{chars_rest}
use Rattle.std.proofs.lemmas.Iterator.{YieldsList-from_chars}
use Rattle.std.proofs.lemmas.Iterator.Adapters.{items_from_extend}
use Rattle.std.proofs.lemmas.Iterator.Consumers.{YieldsList-from_filter_map}
use Rattle.phone_library_text.specs.Letters.{value_of}
use Rattle.phone_library_text.proofs.Digits.{values_bytes}
use Rattle.phone_library_text.proofs.letters.values.Goals as goal

pub returns : goal.returns
returns c =
    let every = YieldsList-from_chars c.args.text.now c.utf8.text (ap chars_rest c.filter_map.ensures.source ∙ c.chars.ensures.rest) in
    let all = items_from_extend c.extend.result c.extend.ensures.ran
    (YieldsList-from_filter_map _ value_of every c.filter_map.ensures.closure (λ x r q h. search (rules, h))) in
    let whole = rw c.in_ok-extend.was at all in
    let bytes = values_bytes (chars c.args.text.now) in
    search (rules, whole, c.in_ok-out.ensures.bytes, bytes)
