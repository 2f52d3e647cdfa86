use Rattle.std.proofs.Common.{[], ◌∷◌, ◌++◌, codes}
use Rattle.phone_cli.specs.Streams.{joined}
use Rattle.phone_cli.proofs.WriteLemmas.{broken_more, broken_then, writes_broken, writes_then}
use Rattle.phone_cli.proofs.say.write_line.Goals as goal

pub returns-in_err-write_str : goal.returns-in_err-write_str
returns-in_err-write_str g c = writes_broken _ _ _ _ _ _ c.from_residual.ensures.0
    (broken_more (codes "phone: ") (joined c.args.texts.now ++ 10 ∷ []) _ _ _ _
    c.in_err-write_str.ensures)

pub returns-in_err-write_texts : goal.returns-in_err-write_texts
returns-in_err-write_texts g c =
    writes_broken _ _ _ _ _ _ c.from_residual-in_err-write_texts.ensures.0
    (broken_then (codes "phone: ") (joined c.args.texts.now ++ 10 ∷ []) _ _ _ _ _ _
    c.in_ok-write_str.ensures
    (broken_more (joined c.args.texts.now) (10 ∷ []) _ _ _ _ c.in_err-write_texts.ensures))

pub returns : goal.returns
returns g c = writes_then (codes "phone: ") (joined c.args.texts.now ++ 10 ∷ []) _ _ _ _ _ _ _
    c.in_ok-write_str.ensures
    (writes_then (joined c.args.texts.now) (10 ∷ []) _ _ _ _ _ _ _ c.in_ok-write_texts.ensures
    c.write_str-2.ensures)
