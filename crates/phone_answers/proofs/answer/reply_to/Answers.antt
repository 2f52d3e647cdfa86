use Rattle.std.proofs.Common.{◌≡◌, ⊎_elim, Err, None, Some, chars, refl, sym, ◌∙◌, ap, subst, false, true≢false}
use Rattle.std.proofs.lemmas.Result.{IfErr-at_err}
use Rattle.phone_engine.proofs.OneReading.{has_territory, number_reads}
use Rattle.phone_answers.specs.Answers.{IsReply, is_blank, refused_answer}
use Rattle.phone_answers.specs.Answers.IsReply.{blank, read, refused}
use Rattle.phone_answers.proofs.answer.reply_to.Goals as goal

pub returns-then-is_blank-clause-reply : goal.returns-then-is_blank-clause-reply
returns-then-is_blank-clause-reply c = blank (sym c.is_blank.ensures ∙ c.if-is_blank.true)

pub returns-in-Err-clause-reply : goal.returns-in-Err-clause-reply
returns-in-Err-clause-reply c =
    let by = c.args.engine.rules in
    let db = c.args.engine.database.now in
    let e = c.in-Err.error in
    let words = c.in_ok-refusal_words-in-Err.ensures in
    let some : is_blank c.args.text.now ≡ false = sym c.is_blank.ensures ∙ c.if-is_blank.false in
    ⊎_elim
    (λ m. absurd (true≢false (sym (words.memory (IfErr-at_err (λ x. e ≡ x) m refl)))))
    (λ r. subst (λ w. IsReply by db c.args.engine.hint c.args.text.now None (refused_answer w)) (sym words.words) (refused e some r))
    c.in-Err.ensures

pub returns-in-Ok-known_of-clause-reply : goal.returns-in-Ok-known_of-clause-reply
returns-in-Ok-known_of-clause-reply c =
    let k = c.in-Ok-known_of.ensures.spelled in
    let some : is_blank c.args.text.now ≡ false = sym c.is_blank.ensures ∙ c.if-is_blank.false in
    subst (IsReply c.args.engine.rules c.args.engine.database.now c.args.engine.hint c.args.text.now (Some c.in-Ok.number)) (sym k.2) (read c.in-Ok.number k.0 some (number_reads c.args.engine.rules c.args.engine.database.now c.args.engine.hint refl c.in-Ok.ensures) k.1)

pub unreachable-requires : goal.unreachable-requires
unreachable-requires c =
    has_territory c.args.engine.rules c.args.engine.database.now c.args.engine.hint (chars c.args.text.now) c.in-Ok.number (number_reads c.args.engine.rules c.args.engine.database.now c.args.engine.hint refl c.in-Ok.ensures)
    (c.in-Err-UnknownCode.ensures.unknown (ap Err c.in-Err-UnknownCode.field-0-is))
