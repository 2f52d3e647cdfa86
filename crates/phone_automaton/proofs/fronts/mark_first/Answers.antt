use Rattle.std.proofs.Common.{◌<◌, true, false, length, arith, rules}
use Rattle.regex_extract.proofs.SidesLemmas.{Marks-literal}
use Rattle.phone_automaton.proofs.fronts.mark_first.Goals as goal

pub returns-clause-marks : goal.returns-clause-marks
returns-clause-marks c =
    let bs = c.args.bytes.now in
    let some : 0 < length bs = search rules in
    Marks-literal true false _ bs some (c.mark_range.ensures.marks _ (omega arith) (omega arith))
