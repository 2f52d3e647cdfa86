use Rattle.std.proofs.Common.{◌∙◌}
use Rattle.std.specs.Fmt.{decimal}
use Rattle.std.proofs.lemmas.Result.{IfOk-weaker}
use Rattle.phone_print.specs.Texts.{e164_text}
use Rattle.phone_commands.proofs.FoundLemmas.{five_told, four_told}
use Rattle.phone_commands.proofs.finder.fields_text.Goals as goal

pub returns-in-Some : goal.returns-in-Some
returns-in-Some c =
    let spot = c.args.spot in
    rw c.in-Some.is (IfOk-weaker c.format.result _ _ (λ s e. e ∙
    five_told c.in-Some.name.now (decimal spot.line) (decimal spot.column)
    (e164_text c.args.number.now) spot.piece.now)
    c.format.ensures.ok)

pub returns-in-None : goal.returns-in-None
returns-in-None c =
    let spot = c.args.spot in
    rw c.in-None.is (IfOk-weaker c.format-in-None.result _ _ (λ s e. e ∙
    four_told (decimal spot.line) (decimal spot.column)
    (e164_text c.args.number.now) spot.piece.now)
    c.format-in-None.ensures.ok)
