use Rattle.std.proofs.Common.{◌≡◌, ◌++◌, drop, map, string_bytes}
use Rattle.phone_words.specs.Help.{rows_text}
use Rattle.phone_words.specs.Rows.{entry_of}
use Rattle.phone_words.proofs.usage.push_rows.Given as goal

abbrev pub invariant-loop-cells : goal.invariant-loop-cells
invariant-loop-cells l =
    string_bytes l.text ++ rows_text (map entry_of (drop l.cells-index l.cells)) ≡
    string_bytes l.initial.text ++ rows_text (map entry_of l.cells)
