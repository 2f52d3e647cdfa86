use Rattle.std.proofs.Common.{◌≡◌, Err, OnOk, ap, subst, sym, ◌∙◌}
use Rattle.phone_columns.proofs.TextLemmas.{unprinted}
use Rattle.phone_columns.specs.Texts.{IsOneMore}
use Rattle.phone_values.specs.declared.mode.Mode.TheVariants.{E164, International, National, Rfc3966}
use Rattle.phone_columns.proofs.texts.InModes.push_number.Goals as goal

pub returns-in-Err-UnknownCode-clause-e164 : goal.returns-in-Err-UnknownCode-clause-e164
returns-in-Err-UnknownCode-clause-e164 c =
    let none = c.texts.ensures.unknown.0 (c.in-Err-UnknownCode.is ∙ ap Err c.in-Err-UnknownCode.field-0-is) in
    subst (λ t. OnOk c.push_texts-in-Err-UnknownCode.result (IsOneMore t c.args.self.now.e164 c.push_texts-in-Err-UnknownCode.new.self.e164))
    (sym (unprinted c.args.engine.rules c.args.engine.database.now E164 c.args.number.now none)) c.push_texts-in-Err-UnknownCode.ensures.e164

pub returns-in-Err-UnknownCode-clause-international : goal.returns-in-Err-UnknownCode-clause-international
returns-in-Err-UnknownCode-clause-international c =
    let none = c.texts.ensures.unknown.0 (c.in-Err-UnknownCode.is ∙ ap Err c.in-Err-UnknownCode.field-0-is) in
    subst (λ t. OnOk c.push_texts-in-Err-UnknownCode.result (IsOneMore t c.args.self.now.international c.push_texts-in-Err-UnknownCode.new.self.international))
    (sym (unprinted c.args.engine.rules c.args.engine.database.now International c.args.number.now none)) c.push_texts-in-Err-UnknownCode.ensures.international

pub returns-in-Err-UnknownCode-clause-national : goal.returns-in-Err-UnknownCode-clause-national
returns-in-Err-UnknownCode-clause-national c =
    let none = c.texts.ensures.unknown.0 (c.in-Err-UnknownCode.is ∙ ap Err c.in-Err-UnknownCode.field-0-is) in
    subst (λ t. OnOk c.push_texts-in-Err-UnknownCode.result (IsOneMore t c.args.self.now.national c.push_texts-in-Err-UnknownCode.new.self.national))
    (sym (unprinted c.args.engine.rules c.args.engine.database.now National c.args.number.now none)) c.push_texts-in-Err-UnknownCode.ensures.national

pub returns-in-Err-UnknownCode-clause-rfc3966 : goal.returns-in-Err-UnknownCode-clause-rfc3966
returns-in-Err-UnknownCode-clause-rfc3966 c =
    let none = c.texts.ensures.unknown.0 (c.in-Err-UnknownCode.is ∙ ap Err c.in-Err-UnknownCode.field-0-is) in
    subst (λ t. OnOk c.push_texts-in-Err-UnknownCode.result (IsOneMore t c.args.self.now.rfc3966 c.push_texts-in-Err-UnknownCode.new.self.rfc3966))
    (sym (unprinted c.args.engine.rules c.args.engine.database.now Rfc3966 c.args.number.now none)) c.push_texts-in-Err-UnknownCode.ensures.rfc3966
