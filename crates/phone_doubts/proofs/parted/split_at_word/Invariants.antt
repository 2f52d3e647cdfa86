use Rattle.std.proofs.Common.{◌≡◌, drop, take}
use Rattle.phone_library_text.specs.Places.{parted}
use Rattle.phone_library_text.proofs.Partings.{behind}
use Rattle.phone_doubts.proofs.parted.split_at_word.Given as goal

abbrev pub invariant-loop-at : goal.invariant-loop-at
invariant-loop-at l = parted l.word l.text ≡ behind (take l.at l.text) (parted l.word (drop l.at l.text))
