use Rattle.std.proofs.Common.{◌≡◌, false, take, chars}
use Rattle.phone_library_text.specs.Scans.{follows_some}
use Rattle.phone_library_text.proofs.Tests.{texts_of}
use Rattle.phone_library_text.proofs.labels.follows_some.Given as goal

abbrev pub invariant-loop-word : goal.invariant-loop-word
invariant-loop-word l = follows_some (texts_of (take l.word-index l.words)) (chars l.text) ≡ false
