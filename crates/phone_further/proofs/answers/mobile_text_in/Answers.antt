use Rattle.std.proofs.Common.{◌≡◌, ℕ, List, None, IfOk, string_bytes, rules, ap, subst, ◌∙◌}
use Rattle.phone_dialling.specs.Mobile.{mobile_text}
use Rattle.phone_further.specs.Answers.{home_id}
use Rattle.phone_further.proofs.answers.mobile_text_in.Goals as goal

pub returns : goal.returns
returns c =
    let db = c.args.database.now in
    let id = c.args.id.now in
    let n = c.args.number.now in
    let symbols = c.args.symbols in
    let same : c.value.result ≡ n.code.value = search rules in
    let home : c.home_id-home.result.now ≡ home_id db id n.code.value = c.home_id-home.ensures ∙ ap (λ (k : ℕ). home_id db id k) same in
    subst (λ (h : List ℕ). IfOk c.mobile_text.result (λ t. string_bytes t ≡ mobile_text db h symbols None n)) home c.mobile_text.ensures
