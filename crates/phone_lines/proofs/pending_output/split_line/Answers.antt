use Rattle.std.proofs.Common.{◌<◌, ◌+◌, length, length-drop, rules, arith}
use Rattle.std.proofs.lemmas.List.{take_rest}
use Rattle.phone_lines.proofs.CutLemmas.{split_around, unbroken_front, unbroken_where}
use Rattle.phone_lines.proofs.pending_output.split_line.Goals as goal

pub returns-in-Some : goal.returns-in-Some
returns-in-Some c =
    let bytes = c.args.bytes.now in
    let at = c.in-Some.at in
    let inside : at < length bytes = search rules in
    record {
      line = unbroken_front bytes at (omega (arith, inside)) (search rules);
      cut = rw take_rest (split_around bytes at 10 inside (search rules));
      shorter = rw take_rest (omega (arith, inside, length-drop (at + 1) bytes));
    }

pub returns-in-None : goal.returns-in-None
returns-in-None c = record { line = unbroken_where c.args.bytes.now (search rules); cut = tt; shorter = tt }
