use Rattle.std.proofs.Common.{[], ◌∷◌, sym}
use Rattle.phone_cli.proofs.WriteLemmas.{broken_more, broken_then, writes_broken, writes_then}
use Rattle.phone_cli.proofs.about.write_region_line.Goals as goal

pub returns-in_err-write_str : goal.returns-in_err-write_str
returns-in_err-write_str g c = rw (sym c.as_str.ensures) (writes_broken _ _ _ _ _ _ c.from_residual.ensures.0
    (broken_more c.as_str.result.now _ _ _ _ _ c.in_err-write_str.ensures))

pub returns-in_err-write_str-2 : goal.returns-in_err-write_str-2
returns-in_err-write_str-2 g c = rw (sym c.as_str.ensures)
    (writes_broken _ _ _ _ _ _ c.from_residual-in_err-write_str-2.ensures.0
    (broken_then c.as_str.result.now _ _ _ _ _ _ _ c.in_ok-write_str.ensures
    (broken_more (9 ∷ []) _ _ _ _ _ c.in_err-write_str-2.ensures)))

pub returns-in_err-write_str-3 : goal.returns-in_err-write_str-3
returns-in_err-write_str-3 g c = rw (sym c.as_str.ensures)
    (writes_broken _ _ _ _ _ _ c.from_residual-in_err-write_str-3.ensures.0
    (broken_then c.as_str.result.now _ _ _ _ _ _ _ c.in_ok-write_str.ensures
    (broken_then (9 ∷ []) _ _ _ _ _ _ _ c.in_ok-write_str-2.ensures
    (broken_more c.args.name.now (10 ∷ []) _ _ _ _ c.in_err-write_str-3.ensures))))

pub returns : goal.returns
returns g c = rw (sym c.as_str.ensures) (writes_then c.as_str.result.now _ _ _ _ _ _ _ _ c.in_ok-write_str.ensures
    (writes_then (9 ∷ []) _ _ _ _ _ _ _ _ c.in_ok-write_str-2.ensures
    (writes_then c.args.name.now (10 ∷ []) _ _ _ _ _ _ _ c.in_ok-write_str-3.ensures
    c.write_str-4.ensures)))
