use Rattle.std.proofs.Common.{ap, sym, ◌∙◌}
use Rattle.phone_values.specs.declared.country.Code.{Code}
use Rattle.phone_plans.specs.CodeLookUps.{first_of, territories}
use Rattle.phone_engine.specs.Facts.{printed_as}
use Rattle.phone_engine.specs.Words.{kind_word, region_word, validity_word}
use Rattle.phone_answers.proofs.AnswerLemmas.{printed_code, printed_digits, three_texts}
use Rattle.phone_answers.proofs.FieldLemmas.{answer_same, known_told}
use Rattle.phone_answers.specs.Fields.{of_known, of_number}
use Rattle.phone_answers.specs.declared.answer.Known.{Known}
use Rattle.phone_answers.proofs.answer.known_of.Goals as goal

pub returns-in-Ok-clause-spelled : goal.returns-in-Ok-clause-spelled
returns-in-Ok-clause-spelled c =
    let db = c.args.engine.database.now in
    let n = c.args.number.now in
    let p = printed_as c.args.engine.rules n in
    let t = c.in_ok-texts.ensures in
    let q = c.in-Ok.ensures in
    let k : Known = record { texts = c.in_ok-texts.texts; facts = c.in-Ok.facts } in
    let h = three_texts c.args.engine.rules (first_of (territories p.code.value db)) p _ _ _ t.e164 t.international t.national in (
      h.m,
      ap (λ (k : Code). first_of (territories k.value db)) (sym (printed_code c.args.engine.rules n)) ∙ h.first,
      answer_same (of_known k) (of_number c.args.engine.rules db h.m n)
          (known_told c.args.engine.rules db h.m n k h.e164 h.international h.national (ap kind_word q.kind) (ap region_word q.region) (ap validity_word q.is_valid)),
    )

pub returns-in-Ok-clause-known : goal.returns-in-Ok-clause-known
returns-in-Ok-clause-known c =
    let p = printed_as c.args.engine.rules c.args.number.now in
    let t = c.in_ok-texts.ensures in
    let q = c.in-Ok.ensures in
    let h = three_texts c.args.engine.rules (first_of (territories p.code.value c.args.engine.database.now)) p _ _ _ t.e164 t.international t.national in
    record { e164 = h.e164 ∙ printed_digits c.args.engine.rules c.args.number.now; kind = q.kind; region = q.region; is_valid = q.is_valid }
