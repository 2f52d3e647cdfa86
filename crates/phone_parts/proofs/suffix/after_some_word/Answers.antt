use Rattle.std.proofs.Common.{List, subst, arith, ℕ, add-one, true≢false, sym}
use Rattle.std.proofs.lemmas.List.{take_all}
use Rattle.std.specs.Str.{chars}
use Rattle.phone_parts.specs.Suffixes.{IsAnnounced}
use Rattle.phone_parts.proofs.Endings.{announced_in, none_of_more, texts_of}
use Rattle.phone_parts.proofs.suffix.after_some_word.Goals as goal

pub loop-word-init : goal.loop-word-init
loop-word-init c = λ d h. true≢false (sym h.announces)

pub loop-word-preserved : goal.loop-word-preserved
loop-word-preserved c = rw add-one (none_of_more c.args.words.now c.loop-word.word-index _ _ c.loop-word.invariant c.in_default.ensures.read)

pub returns-in-Some-clause-read : goal.returns-in-Some-clause-read
returns-in-Some-clause-read c = announced_in c.args.words.now c.loop-word.word-index _ _ _ c.loop-word-test.true c.in-Some.ensures.read

pub returns-clause-read : goal.returns-clause-read
returns-clause-read c =
    subst (λ ws. (d : List ℕ) → ¬ (IsAnnounced (texts_of ws) (chars c.args.text.now) d)) (take_all c.loop-word.word-index c.args.words.now (omega arith)) c.loop-word.invariant
