-- Rows one after the other, and their answers.
use Rattle.std.proofs.Common.{◌≡◌, ℕ, zero, suc, ◌+◌, ◌<◌, ◌≤◌, List, [], ◌∷◌, ◌++◌, Option, None, length, get_or, take, refl, sym, ap, subst, ◌∙◌, arith}
use Rattle.std.proofs.lemmas.List.{take_all, take_more}
use Rattle.std.specs.List.{AllZip}
use Rattle.phone_values.specs.declared.rules.Rules.{Rules}
use Rattle.phone_records.specs.declared.loader.Metadata.{Metadata}
use Rattle.phone_arrow.specs.Texts.{texts_in}
use Rattle.phone_columns.specs.Calls.{Seen, hint_in, rows_of}
use Rattle.phone_columns.specs.Rows.{AreAnswers, IsAnswer, Row, hint_at, rows_from}
use Rattle.phone_columns.specs.declared.answers.Answer.{Answer}
use Rattle.phone_columns.specs.declared.given.Hints.{Hints}

zip_push : {A B : Type 0} (R : A → B → Type 0) (xs : List A) (ys : List B) (x : A) (y : B) → AllZip R xs ys → R x y →
    AllZip R (xs ++ x ∷ []) (ys ++ y ∷ [])
zip_push R [] [] x y h r = (r, tt)
zip_push R [] (b ∷ ys) x y h r = absurd h
zip_push R (a ∷ xs) [] x y h r = absurd h
zip_push R (a ∷ xs) (b ∷ ys) x y h r = (h.0, zip_push R xs ys x y h.1 r)

pub zip_append : {A B : Type 0} (R : A → B → Type 0) (xs : List A) (ys : List B) (us : List A) (vs : List B) → AllZip R xs ys → AllZip R us vs →
    AllZip R (xs ++ us) (ys ++ vs)
zip_append R [] [] us vs h r = r
zip_append R [] (b ∷ ys) us vs h r = absurd h
zip_append R (a ∷ xs) [] us vs h r = absurd h
zip_append R (a ∷ xs) (b ∷ ys) us vs h r = (h.0, zip_append R xs ys us vs h.1 r)

pub length-rows_from : (k : ℕ) (texts : List (Option (List ℕ))) (hint : ℕ → List ℕ) → length (rows_from k texts hint) ≡ length texts
length-rows_from k [] hint = refl
length-rows_from k (t ∷ ts) hint = ap suc (length-rows_from (k + 1) ts hint)

get-rows_from : (k i : ℕ) (texts : List (Option (List ℕ))) (hint : ℕ → List ℕ) (d : Row) → i < length texts →
    get_or (rows_from k texts hint) i d ≡ (get_or texts i None, hint (k + i))
get-rows_from k i [] hint d h = absurd (omega (arith, h))
get-rows_from k zero (t ∷ ts) hint d h =
    let e : k ≡ k + 0 = omega arith in
    ap (λ (n : ℕ). (t, hint n)) e
get-rows_from k (suc i) (t ∷ ts) hint d h =
    let e : (k + 1) + i ≡ k + suc i = omega arith in
    get-rows_from (k + 1) i ts hint d (omega (arith, h)) ∙ ap (λ (n : ℕ). (get_or ts i None, hint n)) e

-- the answers of some first rows, and of one more
pub more_rows : (rules : Rules) (db : List Metadata) (texts : List (Option (List ℕ))) (hint : ℕ → List ℕ) (i : ℕ) (answers : List Answer) (a : Answer) →
    i < length texts → AreAnswers rules db (take i (rows_from 0 texts hint)) answers → IsAnswer rules db (get_or texts i None, hint i) a →
    AreAnswers rules db (take (i + 1) (rows_from 0 texts hint)) (answers ++ a ∷ [])
more_rows rules db texts hint i answers a h are is =
    let d : Row = (None, []) in
    let rows = rows_from 0 texts hint in
    let len : length rows ≡ length texts = length-rows_from 0 texts hint in
    let e : 0 + i ≡ i = omega arith in
    let row : get_or rows i d ≡ (get_or texts i None, hint i) =
    get-rows_from 0 i texts hint d h ∙ ap (λ (n : ℕ). (get_or texts i None, hint n)) e in
    subst (λ (rs : List Row). AreAnswers rules db rs (answers ++ a ∷ [])) (sym (take_more rows i d (omega (arith, len, h))))
    (zip_push (IsAnswer rules db) (take i rows) answers (get_or rows i d) a are
    (subst (λ (r : Row). IsAnswer rules db r a) (sym row) is))

-- hints that are the same place by place make the same rows
pub same_rows : (k : ℕ) (texts : List (Option (List ℕ))) (f g : ℕ → List ℕ) → ((place : ℕ) → f place ≡ g place) →
    rows_from k texts f ≡ rows_from k texts g
same_rows k [] f g same = refl
same_rows k (t ∷ ts) f g same =
    ap (λ (h : List ℕ). (t, h) ∷ rows_from (k + 1) ts f) (same k) ∙
    ap (λ (rows : List Row). (t, g k) ∷ rows) (same_rows (k + 1) ts f g same)

-- the answers of all rows
pub all_rows : (rules : Rules) (db : List Metadata) (texts : List (Option (List ℕ))) (hint : ℕ → List ℕ) (n : ℕ) (answers : List Answer) →
    length texts ≤ n → AreAnswers rules db (take n (rows_from 0 texts hint)) answers → AreAnswers rules db (rows_from 0 texts hint) answers
all_rows rules db texts hint n answers h are =
    let rows = rows_from 0 texts hint in
    let len : length rows ≡ length texts = length-rows_from 0 texts hint in
    subst (λ (rs : List Row). AreAnswers rules db rs answers) (take_all n rows (omega (arith, len, h))) are

pub ruleset row_steps = (more_rows, all_rows)

-- what is read of texts and hints as they are laid out has their rows
pub rows_seen : (texts : List (Option (List ℕ))) (hints : Hints) (t h : Seen) → texts ≡ texts_in t.offsets t.bytes t.bits t.first →
    ((place : ℕ) → hint_at hints place ≡ hint_in h place) → rows_from 0 texts (hint_at hints) ≡ rows_of t h
rows_seen texts hints t h e same =
    same_rows 0 texts (hint_at hints) (hint_in h) same ∙ ap (λ (ts : List (Option (List ℕ))). rows_from 0 ts (hint_in h)) e
