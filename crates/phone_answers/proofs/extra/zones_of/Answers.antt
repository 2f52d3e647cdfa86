use Rattle.std.proofs.Common.{rules, ◌≡◌, true, false, sym, ◌∙◌}
use Rattle.phone_places.specs.Maps.{is_geographical}
use Rattle.phone_answers.specs.Extras.{is_unknown}
use Rattle.phone_answers.proofs.extra.zones_of.Goals as goal

pub returns-then-is_geographical : goal.returns-then-is_geographical
returns-then-is_geographical c =
    let known : is_unknown c.args.kind ≡ false = sym c.is_unknown.ensures ∙ c.if-is_unknown.false in
    let here : is_geographical c.args.kind c.args.number.now.code.value ≡ true = search rules in
    rw (known, here) (rw c.requires at c.text_of.ensures)

pub returns-else-is_geographical : goal.returns-else-is_geographical
returns-else-is_geographical c =
    let known : is_unknown c.args.kind ≡ false = sym c.is_unknown.ensures ∙ c.if-is_unknown.false in
    let elsewhere : is_geographical c.args.kind c.args.number.now.code.value ≡ false = search rules in
    let code : c.value-code.result ≡ c.args.number.now.code.value = search rules in
    rw (known, elsewhere) (rw code at c.text_of_code.ensures)
