use Rattle.std.proofs.Common.{◌≡◌, chars, drop}
use Rattle.phone_doubts.specs.Valid.{behind_one_of, characters}
use Rattle.phone_doubts.proofs.pairs.behind_one_of.Given as goal

abbrev pub invariant-loop-word : goal.invariant-loop-word
invariant-loop-word l =
    behind_one_of (characters l.words) (chars l.text) ≡ behind_one_of (characters (drop l.word-index l.words)) (chars l.text)
