use Rattle.std.proofs.Common.{◌+◌, Bor, List, ℕ, [], chars, drop, get_or, ap, ◌∙◌}
use Rattle.std.proofs.lemmas.List.{drop_more}
use Rattle.phone_doubts.specs.Valid.{behind_one_of, characters}
use Rattle.phone_doubts.proofs.Parting.{front_here, front_later}
use Rattle.phone_doubts.proofs.pairs.behind_one_of.Goals as goal

abbrev nameless : Bor (List ℕ)
nameless = record { ref_ptr = (0, 0); now = [] }

pub returns-in-Some : goal.returns-in-Some
returns-in-Some c =
    let i = c.loop-word.word-index in
    let words = c.args.words.now in
    let text = chars c.args.text.now in
    let word = get_or words i nameless in
    c.loop-word.invariant ∙ ap (λ ws. behind_one_of (characters ws) text) (drop_more words i nameless c.loop-word-test.true)
    ∙ front_here (chars word.now) (chars c.in-Some.rest.now) text (characters (drop (i + 1) words)) c.in-Some.ensures

pub loop-word-preserved : goal.loop-word-preserved
loop-word-preserved c =
    let i = c.loop-word.word-index in
    let words = c.args.words.now in
    let text = chars c.args.text.now in
    let word = get_or words i nameless in
    c.loop-word.invariant ∙ ap (λ ws. behind_one_of (characters ws) text) (drop_more words i nameless c.loop-word-test.true)
    ∙ front_later (chars word.now) text (characters (drop (i + 1) words)) c.in_default.ensures
