use Rattle.std.proofs.Common.{◌≡◌, ◌∙◌, ◌&&◌, Bool, ap, sym}
use Rattle.std.specs.List.{find}
use Rattle.std.specs.Option.{option_or}
use Rattle.std.specs.Prelude.{option_map}
use Rattle.phone_words.specs.Rows.{Entry, counts, entry, first_rows, is_name, more_rows, texts_of}
use Rattle.phone_words.proofs.Parted.{find_of_both}
use Rattle.phone_words.proofs.rows.named.Goals as goal

pub returns-in-Some : goal.returns-in-Some
returns-in-Some c =
    let p : Entry → Bool =
    λ r. is_name c.args.word.now r && counts (texts_of c.args.words.now) r in
    let first : option_map entry c.named_in.result ≡ find p first_rows =
    rw c.first_rows.ensures at c.named_in.ensures in
    ap (λ o. option_or o (find p more_rows)) (ap (option_map entry) (sym c.in-Some.is) ∙ first)
    ∙ sym (find_of_both p first_rows more_rows)

pub returns-in-None : goal.returns-in-None
returns-in-None c =
    let p : Entry → Bool =
    λ r. is_name c.args.word.now r && counts (texts_of c.args.words.now) r in
    let first : option_map entry c.named_in.result ≡ find p first_rows =
    rw c.first_rows.ensures at c.named_in.ensures in
    let second : option_map entry c.named_in-in-None.result ≡ find p more_rows =
    rw c.more_rows.ensures at c.named_in-in-None.ensures in
    second
    ∙ ap (λ o. option_or o (find p more_rows)) (ap (option_map entry) (sym c.in-None.is) ∙ first)
    ∙ sym (find_of_both p first_rows more_rows)
