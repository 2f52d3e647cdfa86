use Rattle.std.proofs.lemmas.Result.{IfOk-weaker}
use Rattle.phone_values.specs.declared.mode.Mode.TheVariants.{E164, International, National, Rfc3966}
use Rattle.phone_engine.proofs.PrintedOwn.{printed_own}
use Rattle.phone_engine.proofs.printing.texts_of.Goals as goal

pub returns-clause-e164 : goal.returns-clause-e164
returns-clause-e164 c = let f = c.format_with.ensures in
    IfOk-weaker c.to_texts.result _ _ (λ t e. printed_own _ c.args.database.now E164 _ _ c.args.number.now _ f.database f.layout f.number e) c.to_texts.ensures.e164

pub returns-clause-international : goal.returns-clause-international
returns-clause-international c = let f = c.format_with.ensures in
    IfOk-weaker c.to_texts.result _ _ (λ t e. printed_own _ c.args.database.now International _ _ c.args.number.now _ f.database f.layout f.number e) c.to_texts.ensures.international

pub returns-clause-national : goal.returns-clause-national
returns-clause-national c = let f = c.format_with.ensures in
    IfOk-weaker c.to_texts.result _ _ (λ t e. printed_own _ c.args.database.now National _ _ c.args.number.now _ f.database f.layout f.number e) c.to_texts.ensures.national

pub returns-clause-rfc3966 : goal.returns-clause-rfc3966
returns-clause-rfc3966 c = let f = c.format_with.ensures in
    IfOk-weaker c.to_texts.result _ _ (λ t e. printed_own _ c.args.database.now Rfc3966 _ _ c.args.number.now _ f.database f.layout f.number e) c.to_texts.ensures.rfc3966
