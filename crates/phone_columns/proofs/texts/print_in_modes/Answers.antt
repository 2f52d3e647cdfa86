use Rattle.phone_columns.proofs.OffsetLemmas.{texts_more}
use Rattle.phone_values.specs.declared.mode.Mode.{Mode}
use Rattle.phone_values.specs.declared.mode.Mode.TheVariants.{E164, International, National, Rfc3966}
use Rattle.phone_columns.proofs.texts.print_in_modes.Goals as goal

pub loop-answer-preserved : goal.loop-answer-preserved
loop-answer-preserved c =
    let more = λ (mode : Mode). texts_more c.args.engine.rules c.args.engine.database.now mode c.args.answers.now c.loop-answer.answer-index
    c.answer-item.result in
    let old = c.loop-answer.all in
    let new = c.push.new.self in
    let so = c.loop-answer.invariant in
    let one = c.in_ok-push.ensures in
    let i = c.loop-answer-test.true in
    let at = c.answer-item.is in
    record {
      e164 = more E164 old.e164 new.e164 i at so.e164 one.e164;
      international = more International old.international new.international i at so.international one.international;
      national = more National old.national new.national i at so.national one.national;
      rfc3966 = more Rfc3966 old.rfc3966 new.rfc3966 i at so.rfc3966 one.rfc3966;
    }
