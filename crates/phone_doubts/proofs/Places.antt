-- Where a word stands in a text, place by place.
use Rattle.std.proofs.Common.{◌≡◌, ℕ, ◌+◌, ◌<◌, List, [], ◌++◌, length, take, drop, get_or, Some, ap, sym, ◌∙◌}
use Rattle.std.proofs.lemmas.List.{drop_more, take_more}
use Rattle.phone_library_text.specs.Places.{parted}
use Rattle.phone_library_text.proofs.Partings.{behind, behind-more, parted-front, parted-later}

-- a word that stands at a place parts the rest there
pub parted_here : (word text : List ℕ) (at : ℕ) (rest : List ℕ) → at < length text → drop at text ≡ word ++ rest →
    parted word (drop at text) ≡ Some ([], rest)
parted_here word text at rest inside e =
    let more = drop_more text at 0 inside in
    ap (parted word) more ∙ parted-front word (get_or text at 0) (drop (at + 1) text) rest (sym more ∙ e)

-- where it doesn't stand there, it is looked for one place on
pub parted_further : (word text : List ℕ) (at : ℕ) → at < length text → ((rest : List ℕ) → ¬ (drop at text ≡ word ++ rest)) →
    behind (take at text) (parted word (drop at text)) ≡ behind (take (at + 1) text) (parted word (drop (at + 1) text))
parted_further word text at inside none =
    let more = drop_more text at 0 inside in
    let c = get_or text at 0 in
    ap (behind (take at text)) (ap (parted word) more ∙ parted-later word c (drop (at + 1) text) (λ rest e. none rest (more ∙ e)))
    ∙ behind-more (take at text) c (parted word (drop (at + 1) text))
    ∙ ap (λ t. behind t (parted word (drop (at + 1) text))) (sym (take_more text at 0 inside))
