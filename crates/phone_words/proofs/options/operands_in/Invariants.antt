use Rattle.std.proofs.Common.{◌≡◌, ◌++◌, drop}
use Rattle.phone_words.specs.Calls.{operands_in}
use Rattle.phone_words.specs.Parts.{all_said}
use Rattle.phone_words.specs.Rows.{texts_of}
use Rattle.phone_words.proofs.options.operands_in.Given as goal

abbrev pub invariant-loop-part : goal.invariant-loop-part
invariant-loop-part l =
    texts_of l.operands.items ++ operands_in (all_said (drop l.part-index l.parts)) ≡
    operands_in (all_said l.parts)
