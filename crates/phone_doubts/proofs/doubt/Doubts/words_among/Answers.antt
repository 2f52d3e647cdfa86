use Rattle.std.proofs.Common.{Bool, List, ℕ, get_or, if◌then◌else◌, string_bytes, ap, ap₂, sym, ◌∙◌}
use Rattle.phone_doubts.specs.Words.{behind, holds}
use Rattle.phone_doubts.specs.declared.doubt.Doubt.TheVariants as doubt
use Rattle.phone_doubts.proofs.Spaced.{first_words-more}
use Rattle.phone_doubts.proofs.doubt.Doubts.words_among.Goals as goal

pub loop-doubt-preserved : goal.loop-doubt-preserved
loop-doubt-preserved c =
    let all = c.args.doubts.now in
    let i = c.loop-doubt.doubt-index in
    let d = get_or all i doubt.Float in
    let old = string_bytes c.loop-doubt.text in
    c.in_ok-push_word.ensures ∙ ap (λ (h : Bool). if h then behind old c.word.result.now else old) c.holds.ensures
    ∙ ap₂ (λ (t w : List ℕ). if holds c.args.self d then behind t w else t) c.loop-doubt.invariant c.word.ensures
    ∙ sym (first_words-more (holds c.args.self) i all c.loop-doubt-test.true)
