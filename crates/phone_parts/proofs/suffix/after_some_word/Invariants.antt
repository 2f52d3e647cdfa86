use Rattle.std.proofs.Common.{List, ℕ, take, chars}
use Rattle.phone_parts.specs.Suffixes.{IsAnnounced}
use Rattle.phone_parts.proofs.Endings.{texts_of}
use Rattle.phone_parts.proofs.suffix.after_some_word.Given as goal

abbrev pub invariant-loop-word : goal.invariant-loop-word
invariant-loop-word l = (d : List ℕ) → ¬ (IsAnnounced (texts_of (take l.word-index l.words)) (chars l.text) d)
