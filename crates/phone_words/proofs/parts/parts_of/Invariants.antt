use Rattle.std.proofs.Common.{◌≡◌, drop}
use Rattle.phone_words.specs.Parts.{all_said, before_said, parts_from, parts_in}
use Rattle.phone_words.specs.Rows.{texts_of}
use Rattle.phone_words.proofs.parts.parts_of.Given as goal

abbrev pub invariant-loop-word : goal.invariant-loop-word
invariant-loop-word l =
    parts_from (texts_of l.words) (texts_of (drop l.word-index l.words)) (all_said l.parts.items)
    (before_said l.before) ≡ parts_in (texts_of l.words)
