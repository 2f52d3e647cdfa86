use Rattle.std.proofs.Common.{map, take}
use Rattle.regex_hir.specs.Meaning.{meaning, cat_all, alt_all}
use Rattle.phone_automaton.specs.Ascii.{AsciiSame}
use Rattle.phone_automaton.proofs.narrow.+narrow.Given as goal

abbrev pub invariant-narrow_each-loop-i : goal.invariant-narrow_each-loop-i
invariant-narrow_each-loop-i l =
    AsciiSame (cat_all (map meaning l.all.items)) (cat_all (map meaning (take l.i l.subs)))
    × AsciiSame (alt_all (map meaning l.all.items)) (alt_all (map meaning (take l.i l.subs)))
