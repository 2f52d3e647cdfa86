use Rattle.std.proofs.Common.{◌∷◌, [], subst}
use Rattle.std.proofs.lemmas.Result.{on_ok_weaker}
use Rattle.phone_table.specs.Tallies.{CountsMore}
use Rattle.phone_table.proofs.Counting.{counts_no_text, counts_one}
use Rattle.phone_table.proofs.tally.add_bytes.Goals as goal

pub returns-in-Ok : goal.returns-in-Ok
returns-in-Ok c = on_ok_weaker c.add_if_any.result
    (λ h. subst (λ text. CountsMore c.args.tally.now (text ∷ []) c.add_if_any.new.tally) c.in-Ok.ensures.cases.0
    (counts_one c.args.tally.now c.add_if_any.new.tally c.in-Ok.text.now h))
    c.add_if_any.ensures

pub returns-in-Err : goal.returns-in-Err
returns-in-Err c = counts_no_text c.args.tally.now c.args.bytes.now c.in-Err.ensures.cases.0
