use Rattle.std.proofs.Common.{◌≡◌, ◌∙◌, ap, sym}
use Rattle.std.specs.Option.{option_or}
use Rattle.std.specs.Prelude.{option_map}
use Rattle.phone_words.specs.Rows.{entry_and_text, first_rows, joined_in, more_rows, texts_of}
use Rattle.phone_words.proofs.Parted.{joined_of_both}
use Rattle.phone_words.proofs.rows.joined.Goals as goal

pub returns-in-Some : goal.returns-in-Some
returns-in-Some c =
    let words = texts_of c.args.words.now in
    let word = c.args.word.now in
    let first : option_map entry_and_text c.joined_in.result ≡ joined_in words first_rows word =
    rw c.first_rows.ensures at c.joined_in.ensures in
    ap (λ o. option_or o (joined_in words more_rows word))
    (ap (option_map entry_and_text) (sym c.in-Some.is) ∙ first)
    ∙ sym (joined_of_both words word first_rows more_rows)

pub returns-in-None : goal.returns-in-None
returns-in-None c =
    let words = texts_of c.args.words.now in
    let word = c.args.word.now in
    let first : option_map entry_and_text c.joined_in.result ≡ joined_in words first_rows word =
    rw c.first_rows.ensures at c.joined_in.ensures in
    let second : option_map entry_and_text c.joined_in-in-None.result ≡
    joined_in words more_rows word = rw c.more_rows.ensures at c.joined_in-in-None.ensures in
    second
    ∙ ap (λ o. option_or o (joined_in words more_rows word))
    (ap (option_map entry_and_text) (sym c.in-None.is) ∙ first)
    ∙ sym (joined_of_both words word first_rows more_rows)
