use Rattle.std.proofs.Common.{◌≡◌, drop}
use Rattle.phone_words.specs.Rows.{is_among, texts_of}
use Rattle.phone_words.proofs.rows.is_among.Given as goal

abbrev pub invariant-loop-word : goal.invariant-loop-word
invariant-loop-word l =
    is_among l.text (texts_of (drop l.word-index l.words)) ≡ is_among l.text (texts_of l.words)
