use Rattle.std.proofs.Common.{◌≡◌, string_bytes}
use Rattle.phone_doubts.specs.Words.{holds}
use Rattle.phone_doubts.proofs.Spaced.{first_words}
use Rattle.phone_doubts.proofs.doubt.Doubts.words_among.Given as goal

abbrev pub invariant-loop-doubt : goal.invariant-loop-doubt
invariant-loop-doubt l = string_bytes l.text ≡ first_words (holds l.self) l.doubt-index l.doubts
