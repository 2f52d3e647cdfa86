use Rattle.std.proofs.Common.{◌++◌, ◌∙◌, ℕ, List, ap, append_assoc, map, sym}
use Rattle.phone_words.specs.Help.{rows_text}
use Rattle.phone_words.specs.Rows.{entry_of}
use Rattle.phone_words.specs.declared.usage.TheConstants.{BACK, FRONT}
use Rattle.phone_words.proofs.Parted.{told_of_both}
use Rattle.phone_words.proofs.usage.help_of.Goals as goal

pub returns : goal.returns
returns c =
    let cells = map entry_of c.args.cells.now in
    let more = map entry_of c.args.more.now in
    let first : List ℕ = rows_text cells in
    let second : List ℕ = rows_text more in
    c.in_ok-push_str-2.ensures.bytes ∙ ap (λ t. t ++ BACK.now) (c.in_ok-push_rows-2.ensures
    ∙ ap (λ t. t ++ second) (c.in_ok-push_rows.ensures ∙ ap (λ t. t ++ first)
    (c.in_ok-push_str.ensures.bytes ∙ ap (λ t. t ++ FRONT.now) c.new-text.ensures.bytes)))
    ∙ ap (λ t. t ++ BACK.now) (append_assoc FRONT.now first second)
    ∙ append_assoc FRONT.now (first ++ second) BACK.now
    ∙ ap (λ t. FRONT.now ++ (t ++ BACK.now)) (sym (told_of_both cells more))
