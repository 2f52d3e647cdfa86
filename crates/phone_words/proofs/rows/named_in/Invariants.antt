use Rattle.std.proofs.Common.{◌≡◌, ◌&&◌, drop, map}
use Rattle.std.specs.List.{find}
use Rattle.phone_words.specs.Rows.{counts, entry_of, is_name, texts_of}
use Rattle.phone_words.proofs.rows.named_in.Given as goal

abbrev pub invariant-loop-cells : goal.invariant-loop-cells
invariant-loop-cells l =
    find (λ r. is_name l.word r && counts (texts_of l.words) r)
    (map entry_of (drop l.cells-index l.cells)) ≡
    find (λ r. is_name l.word r && counts (texts_of l.words) r) (map entry_of l.cells)
