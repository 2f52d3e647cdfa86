use Rattle.std.proofs.Common.{string_bytes}
use Rattle.std.proofs.lemmas.Result.{on_ok_weaker}
use Rattle.phone_plans.specs.CodeLookUps.{first_of, territories}
use Rattle.phone_engine.proofs.NumberLines.{printed_texts_own}
use Rattle.phone_engine.proofs.NumberLines.{by_first}
use Rattle.phone_engine.proofs.number.push_texts.Goals as goal

pub returns-clause-texts : goal.returns-clause-texts
returns-clause-texts c =
    let db = c.args.database.now in
    let n = c.args.number.now in
    let f = c.format_with.ensures in
    on_ok_weaker c.push_texts.result (λ printed. by_first n (first_of (territories n.code.value db)) printed.0
    (string_bytes c.args.line.now) (string_bytes c.push_texts.new.line)
    (printed_texts_own _ db _ _ n printed.0 f.database f.number f.layout printed.1) printed.2) c.push_texts.ensures.texts
