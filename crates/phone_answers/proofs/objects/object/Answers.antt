use Rattle.std.proofs.Common.{◌∙◌, option_map, sym, ap, subst}
use Rattle.std.proofs.lemmas.Result.{IfOk-weaker}
use Rattle.serde_json.specs.Data.{string}
use Rattle.serde_json.specs.View.{view}
use Rattle.phone_answers.specs.Spelled.{number_in, spelled}
use Rattle.phone_answers.specs.Objects.{IsObject, object_of}
use Rattle.phone_answers.specs.Objects.IsObject.{no_text, of_text}
use Rattle.phone_answers.proofs.objects.object.Goals as goal

pub returns-in-Ok : goal.returns-in-Ok
returns-in-Ok c =
    let rules = c.args.engine.rules in
    let db = c.args.engine.database.now in
    let extra = c.args.extra.now in
    let place = c.args.place in
    let n = number_in c.in_ok-answer.answer in
    let a = spelled c.in_ok-answer.answer in
    let is = IsObject rules db (option_map (λ d. d.now) c.args.short) extra c.args.engine.hint place c.args.line.now in
    IfOk-weaker c.object_of_text.result _ (λ v. is (view v))
    (λ v x. subst is (sym (x.2 ∙ ap (λ t. object_of rules db place (string t) n a extra x.0) c.in-Ok.ensures.cases.0))
    (of_text n a x.0 c.in-Ok.ensures.cases.1 c.in_ok-answer.ensures.answer x.1))
    c.object_of_text.ensures

pub returns : goal.returns
returns c =
    let is = IsObject c.args.engine.rules c.args.engine.database.now (option_map (λ d. d.now) c.args.short) c.args.extra.now c.args.engine.hint c.args.place c.args.line.now in
    IfOk-weaker c.object_without_text.result _ (λ v. is (view v))
    (λ v x. subst is (sym x.2) (no_text (number_in c.in_ok-answer.answer) (spelled c.in_ok-answer.answer) x.0 c.in-Err.ensures.cases.0 c.in_ok-answer.ensures.answer x.1))
    c.object_without_text.ensures
