use Rattle.std.proofs.Common.{◌≡◌, drop, map}
use Rattle.phone_words.specs.Rows.{entry_of, joined_in, texts_of}
use Rattle.phone_words.proofs.rows.joined_in.Given as goal

abbrev pub invariant-loop-cells : goal.invariant-loop-cells
invariant-loop-cells l =
    joined_in (texts_of l.words) (map entry_of (drop l.cells-index l.cells)) l.word ≡
    joined_in (texts_of l.words) (map entry_of l.cells) l.word
