use Rattle.std.proofs.Common.{◌++◌, IfSome, subst}
use Rattle.std.proofs.lemmas.Result.{on_ok_weaker}
use Rattle.phone_columns.proofs.TextLemmas.{in_mode}
use Rattle.phone_columns.specs.Bodies.{HasBuffers}
use Rattle.phone_columns.specs.Texts.{AreTextsInModes}
use Rattle.phone_columns.proofs.body.Body.push_in_mode.Goals as goal

pub returns-in-Some : goal.returns-in-Some
returns-in-Some c =
    let by = c.args.engine.rules in
    let db = c.args.engine.database.now in
    let answers = c.args.answers.now in
    let of = c.of.ensures in
    let are = subst (λ o. IfSome o (λ all. AreTextsInModes by db answers all)) c.in-Some.is c.requires in
    let same = in_mode by db c.args.mode answers c.in-Some.all c.of.result.now are of.e164 of.international of.national of.rfc3966 in
    on_ok_weaker c.push_printed.result
    (λ given buffers has. subst (λ bs. HasBuffers (buffers ++ bs) c.push_printed.new.self) same (given buffers has)) c.push_printed.ensures
