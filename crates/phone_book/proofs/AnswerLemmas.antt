-- What answers say of the entries: they are the first of the numbers before them and those that the lines gave.
use Rattle.std.proofs.Common.{◌≡◌, true, false, List, [], ◌∷◌, ◌++◌, Ok, Err, refl, ap, sym, subst, ◌∙◌}
use Rattle.std.proofs.lemmas.List.{append_assoc, append-nil}
use Rattle.phone_records.specs.declared.loader.Metadata.{Metadata}
use Rattle.phone_values.specs.declared.reading.Reading.{Reading}
use Rattle.phone_values.specs.declared.rules.Rules.{Rules}
use Rattle.phone_book.specs.Answers.{Answer, AreAnswered, HasNumbers, HaveNumbers, IsAnswered, Line}
use Rattle.phone_book.specs.Firsts.{firsts, is_among}
use Rattle.phone_book.specs.declared.answers.BookError.TheVariants.{Refused, Memory}
use Rattle.phone_book.specs.declared.answers.Place.TheVariants.{Added, Present}
use Rattle.phone_book.proofs.FirstLemmas.{among-at, among-firsts, firsts-new, firsts-present}

-- one line after the numbers that were seen
pub line-firsts : (by : Rules) (db : List Metadata) (seen before : List Reading) (l : Line) (a : Answer) (after : List Reading) → before ≡ firsts seen →
    IsAnswered by db before l a after → (ns : List Reading) × (HasNumbers by db l a ns) × (after ≡ firsts (seen ++ ns))
line-firsts by db seen before l (Ok (Added k)) after e h =
    let n = h.0 in
    let fresh : is_among n seen ≡ false = sym (among-firsts n seen) ∙ sym (ap (is_among n) e) ∙ h.2.0 in
    (n ∷ [], (n, h.1, refl), h.2.2 ∙ ap (λ ms. ms ++ n ∷ []) e ∙ sym (firsts-new seen n fresh))
line-firsts by db seen before l (Ok (Present k)) after e h =
    let n = h.0 in
    let there : is_among n seen ≡ true = sym (among-firsts n seen) ∙ sym (ap (is_among n) e) ∙ among-at n h.2.0 before k h.2.1 h.2.2 in
    (n ∷ [], (n, h.1, refl), h.2.3 ∙ e ∙ sym (firsts-present seen n there))
line-firsts by db seen before l (Err (Refused x)) after e h = ([], (h.0, refl), h.2 ∙ e ∙ sym (ap firsts (append-nil seen)))
line-firsts by db seen before l (Err Memory) after e h = ([], refl, h ∙ e ∙ sym (ap firsts (append-nil seen)))

-- all lines
pub lines-firsts : (by : Rules) (db : List Metadata) (seen before : List Reading) (ls : List Line) (answers : List Answer) (after : List Reading) → before ≡ firsts seen →
    AreAnswered by db before ls answers after → (ns : List Reading) × (HaveNumbers by db ls answers ns) × (after ≡ firsts (seen ++ ns))
lines-firsts by db seen before [] answers after e h = ([], (h.0, refl), h.1 ∙ e ∙ sym (ap firsts (append-nil seen)))
lines-firsts by db seen before (l ∷ ls) answers after e h =
    let now = line-firsts by db seen before l h.0 h.2 e h.4 in
    let later = lines-firsts by db (seen ++ now.0) h.2 ls h.1 after now.2 h.5 in
    (now.0 ++ later.0, (h.0, h.1, now.0, later.0, h.3, now.1, later.1, refl), later.2 ∙ ap firsts (append_assoc seen now.0 later.0))

-- one more line behind those that were answered
pub answered-push : (by : Rules) (db : List Metadata) (before : List Reading) (ls : List Line) (answers : List Answer) (between : List Reading) (l : Line) (a : Answer)
    (after : List Reading) → AreAnswered by db before ls answers between → IsAnswered by db between l a after →
    AreAnswered by db before (ls ++ l ∷ []) (answers ++ a ∷ []) after
answered-push by db before [] answers between l a after h g =
    (a, [], after, ap (λ xs. xs ++ a ∷ []) h.0, subst (λ es. IsAnswered by db es l a after) h.1 g, (refl, refl))
answered-push by db before (m ∷ ls) answers between l a after h g =
    (h.0, h.1 ++ a ∷ [], h.2, ap (λ xs. xs ++ a ∷ []) h.3, h.4, answered-push by db h.2 ls h.1 between l a after h.5 g)
