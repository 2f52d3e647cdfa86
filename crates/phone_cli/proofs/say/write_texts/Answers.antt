use Rattle.phone_words.specs.Rows.{Lent}
use Rattle.phone_cli.proofs.WriteLemmas.{broken_at, writes_broken}
use Rattle.phone_cli.proofs.say.write_texts.Goals as goal

pub returns-in_err-write_str : goal.returns-in_err-write_str
returns-in_err-write_str g c = writes_broken _ _ _ _ _ _ c.from_residual.ensures.0
    (broken_at (λ (t : Lent). t.now) c.args.texts.now c.loop-text.text-index _ _ _ _ _ _ _
    c.loop-text-test.true c.loop-text.invariant c.in_err-write_str.ensures)
