use Rattle.std.proofs.Common.{◌≡◌, drop, fold}
use Rattle.phone_words.specs.Calls.{value, with_part}
use Rattle.phone_words.specs.Parts.{all_said}
use Rattle.phone_words.specs.Rows.{text_in}
use Rattle.phone_words.proofs.options.value.Given as goal

abbrev pub invariant-loop-part : goal.invariant-loop-part
invariant-loop-part l =
    fold (with_part l.name) (text_in l.found) (all_said (drop l.part-index l.parts)) ≡
    value (all_said l.parts) l.name
