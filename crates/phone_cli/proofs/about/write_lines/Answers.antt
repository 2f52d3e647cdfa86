use Rattle.std.proofs.Common.{sym}
use Rattle.phone_cli.specs.Abouts.{name_line}
use Rattle.phone_cli.proofs.WriteLemmas.{broken_more, broken_then, writes_broken, writes_then}
use Rattle.phone_cli.proofs.about.write_lines.Goals as goal

pub returns-in_err-write_str : goal.returns-in_err-write_str
returns-in_err-write_str g c = writes_broken _ _ _ _ _ _ c.from_residual.ensures.0
    (broken_more name_line _ _ _ _ _ c.in_err-write_str.ensures)

pub returns-in_err-write_str-2 : goal.returns-in_err-write_str-2
returns-in_err-write_str-2 g c = rw (sym c.rules_line.ensures)
    (writes_broken _ _ _ _ _ _ c.from_residual-in_err-write_str-2.ensures.0
    (broken_then name_line _ _ _ _ _ _ _ c.in_ok-write_str.ensures
    (broken_more c.rules_line.result.now _ _ _ _ _ c.in_err-write_str-2.ensures)))

pub returns : goal.returns
returns g c = rw (sym c.rules_line.ensures) (writes_then name_line _ _ _ _ _ _ _ _
    c.in_ok-write_str.ensures
    (writes_then c.rules_line.result.now _ _ _ _ _ _ _ _ c.in_ok-write_str-2.ensures
    c.write_table_line.ensures))
