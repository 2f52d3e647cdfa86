use Rattle.std.proofs.Common.{◌≡◌, IfOk, string_bytes, subst, true}
use Rattle.phone_further.specs.Answers.{mobile_text_in}
use Rattle.phone_commands.proofs.written.in_form.Goals as goal

pub returns-in-Mobile : goal.returns-in-Mobile
returns-in-Mobile c =
    rw c.in-Mobile.is (subst (λ id. IfOk c.mobile_text_in.result (λ t. string_bytes t ≡ mobile_text_in c.args.engine.database.now id true c.args.number.now)) c.id_of.ensures c.mobile_text_in.ensures)
