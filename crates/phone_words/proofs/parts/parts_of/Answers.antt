use Rattle.std.proofs.Common.{◌+◌, ◌∙◌, drop, inl, inr, sym}
use Rattle.std.proofs.lemmas.Result.{IfErr-weaker, IfOk-weaker}
use Rattle.phone_words.specs.Parts.{all_said, before_said, fault, kind_said}
use Rattle.phone_words.specs.Rows.{texts_of}
use Rattle.phone_words.proofs.Steps.{word_read, word_refused, words_at, words_end}
use Rattle.phone_words.proofs.parts.parts_of.Goals as goal

pub returns-in-Err-clause-refused : goal.returns-in-Err-clause-refused
returns-in-Err-clause-refused c =
    let words = c.args.words.now in
    let n = c.loop-word.word-index in
    let k = kind_said c.kind_after-kind.result in
    elim c.in-Err.ensures.refused [
      | inl m ↦ inl m
      | inr r ↦ inr (sym c.loop-word.invariant
          ∙ word_refused (texts_of words) (texts_of (drop n words)) (texts_of (drop (n + 1) words))
          _
          (all_said c.loop-word.parts.items) (before_said c.loop-word.before) k
          (fault c.in-Err.error) (words_at words n _ c.loop-word-test.true)
          c.kind_after-kind.ensures r)
    ]

pub loop-word-preserved : goal.loop-word-preserved
loop-word-preserved c =
    let words = c.args.words.now in
    let n = c.loop-word.word-index in
    let k = kind_said c.kind_after-kind.result in
    sym (word_read (texts_of words) (texts_of (drop n words)) (texts_of (drop (n + 1) words)) _
    (all_said c.loop-word.parts.items) (all_said c.push_kind.new.parts.items)
    (before_said c.loop-word.before) (before_said c.before_next-before.result) k
    (words_at words n _ c.loop-word-test.true) c.kind_after-kind.ensures c.in-Ok.ensures.pushed
    c.before_next-before.ensures)
    ∙ c.loop-word.invariant

pub returns-clause-parts : goal.returns-clause-parts
returns-clause-parts c =
    let words = c.args.words.now in
    let e = words_end (texts_of words) words c.loop-word.word-index
    (all_said c.loop-word.parts.items)
    (before_said c.loop-word.before) c.loop-word-test.false in
    IfOk-weaker c.ended.result _ _ (λ ps h. sym c.loop-word.invariant ∙ e ∙ h (texts_of words))
    c.ended.ensures.ended

pub returns-clause-refused : goal.returns-clause-refused
returns-clause-refused c =
    let words = c.args.words.now in
    let e = words_end (texts_of words) words c.loop-word.word-index
    (all_said c.loop-word.parts.items)
    (before_said c.loop-word.before) c.loop-word-test.false in
    IfErr-weaker c.ended.result _ _
    (λ x h. inr (sym c.loop-word.invariant ∙ e ∙ h (texts_of words))) c.ended.ensures.refused
