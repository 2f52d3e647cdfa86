use Rattle.std.proofs.Common.{◌≡◌, Some, None, true, false, option_map, sym, ◌∙◌}
use Rattle.std.proofs.lemmas.Result.{IfOk-weaker}
use Rattle.phone_short.specs.declared.kind.ShortKind.TheVariants.{Emergency, ShortNumber}
use Rattle.phone_answers.specs.Answers.{IsReply, IsTextAnswer, is_valid_number}
use Rattle.phone_answers.specs.Answers.IsTextAnswer.{emergency, no_short_number, short_number, valid_number}
use Rattle.phone_answers.specs.Shorts.{short_in}
use Rattle.phone_answers.specs.Spelled.{number_in, spelled}
use Rattle.phone_answers.proofs.AnswerLemmas.{known_validity}
use Rattle.phone_answers.proofs.answer.answer_to_text.Goals as goal

pub returns-in-Some-default-Emergency-clause-answer : goal.returns-in-Some-default-Emergency-clause-answer
returns-in-Some-default-Emergency-clause-answer c =
    let arm = c.in-Some-default-Emergency in
    let is : c.in_ok-region.field-0 ≡ Some (arm.region, Emergency) = cc (arm.is, arm.field-0-1-is) in
    emergency arm.region (sym c.in_ok-region.ensures ∙ is)

pub returns-then-is_valid-clause-answer : goal.returns-then-is_valid-clause-answer
returns-then-is_valid-clause-answer c =
    let arm = c.in-Some-default-ShortNumber in
    let reply = c.in_ok-reply-in-Some-default-ShortNumber in
    let is : c.in_ok-region.field-0 ≡ Some (arm.region, ShortNumber) = cc (arm.is, arm.field-0-1-is) in
    let valid : is_valid_number c.args.engine.rules c.args.engine.database.now (number_in reply.reply) ≡ true =
    sym (known_validity c.args.engine.rules c.args.engine.database.now reply.reply reply.ensures.known) ∙ sym c.is_valid.ensures ∙ c.if-is_valid.true in
    valid_number arm.region (number_in reply.reply) (spelled reply.reply) (sym c.in_ok-region.ensures ∙ is) reply.ensures.reply valid

pub returns-else-is_valid-clause-answer : goal.returns-else-is_valid-clause-answer
returns-else-is_valid-clause-answer c =
    let arm = c.in-Some-default-ShortNumber in
    let reply = c.in_ok-reply-in-Some-default-ShortNumber in
    let is : c.in_ok-region.field-0 ≡ Some (arm.region, ShortNumber) = cc (arm.is, arm.field-0-1-is) in
    let not_valid : is_valid_number c.args.engine.rules c.args.engine.database.now (number_in reply.reply) ≡ false =
    sym (known_validity c.args.engine.rules c.args.engine.database.now reply.reply reply.ensures.known) ∙ sym c.is_valid.ensures ∙ c.if-is_valid.false in
    short_number arm.region (number_in reply.reply) (spelled reply.reply) (sym c.in_ok-region.ensures ∙ is) reply.ensures.reply not_valid

pub returns-in-None-clause-answer : goal.returns-in-None-clause-answer
returns-in-None-clause-answer c =
    let by = c.args.engine.rules in
    let db = c.args.engine.database.now in
    let short = option_map (λ d. d.now) c.args.short in
    let none : short_in short c.args.engine.hint c.args.text.now ≡ None = sym c.in_ok-region.ensures ∙ c.in-None.is in
    IfOk-weaker c.reply_to-in-None.result (λ a. IsReply by db c.args.engine.hint c.args.text.now (number_in a) (spelled a))
    (λ a. IsTextAnswer by db short c.args.engine.hint c.args.text.now (number_in a) (spelled a))
    (λ a is. no_short_number (number_in a) (spelled a) none is) c.reply_to-in-None.ensures.reply
