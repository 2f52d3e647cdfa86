use Rattle.std.proofs.Common.{rules, ◌≡◌, ◌-◌, ◌<◌, ◌++◌, List, ℕ, Some, length, take, drop, ap, ap₂, sym, ◌∙◌, append-nil, true≢false}
use Rattle.std.proofs.lemmas.Bool.Decides.{Decides-eqb}
use Rattle.std.proofs.lemmas.List.{take_rest}
use Rattle.std.proofs.lemmas.Slice.Eq.{starts_is}
use Rattle.phone_library_text.proofs.Partings.{behind}
use Rattle.phone_doubts.proofs.Places.{parted_further, parted_here}
use Rattle.phone_doubts.proofs.parted.split_at_word.Goals as goal

pub returns-then-starts_with : goal.returns-then-starts_with
returns-then-starts_with c =
    let text = c.args.text.now in
    let word = c.args.word.now in
    let at = c.loop-at.at in
    let rest = drop at text in
    let inside : at < length text = search rules in
    let told = starts_is Decides-eqb rest word c.starts_with.result (rw take_rest at c.starts_with.ensures.value) in
    let found : rest ≡ word ++ drop (length word) rest = told.0 c.if-starts_with.true in
    let tail = ap (λ (r : List ℕ). take (length r - length word) (drop (length word) r)) (take_rest text at) ∙ take_rest rest (length word) in
    c.loop-at.invariant ∙ ap (behind (take at text)) (parted_here word text at (drop (length word) rest) inside found)
    ∙ ap₂ (λ (a b : List ℕ). Some (a, b)) (append-nil (take at text)) (sym tail)

pub loop-at-preserved : goal.loop-at-preserved
loop-at-preserved c =
    let text = c.args.text.now in
    let word = c.args.word.now in
    let at = c.loop-at.at in
    let inside : at < length text = search rules in
    let told = starts_is Decides-eqb (drop at text) word c.starts_with.result (rw take_rest at c.starts_with.ensures.value) in
    c.loop-at.invariant ∙ parted_further word text at inside (λ rest e. true≢false (sym (told.1 rest e) ∙ c.if-starts_with.false))
