-- A row that is found among rows of references is found among their words.
use Rattle.std.proofs.Common.{◌≡◌, ◌==◌, ℕ, Bool, true, false, if◌then◌else◌, List, [], ◌∷◌, refl, sym, ◌∙◌}
use Rattle.std.specs.Borrow.{Bor}
use Rattle.std.specs.List.{find}
use Rattle.std.specs.Prelude.{Option, Some, option_map}
use Rattle.phone_c_base.specs.Words.{rows_of, word_in}

abbrev Row : Type 0
Row = ℕ × Bor (List ℕ)

-- the word of the first of rows of references that has this number
abbrev word_of_found : List Row → ℕ → Option (List ℕ)
word_of_found rows value =
    option_map (λ (row : Row). row.1.now) (find (λ (row : Row). row.0 == value) rows)

one_more : (row : Row) (rows : List Row) (value : ℕ) → (here : Bool) →
    word_in (rows_of rows) value ≡ word_of_found rows value →
    (if here then Some row.1.now else word_in (rows_of rows) value) ≡
    (if here then Some row.1.now else word_of_found rows value)
one_more row rows value true rest = refl
one_more row rows value false rest = rest

apart : (p : Row) (here : Bool) (rest : Option Row) →
    option_map (λ (row : Row). row.1.now) (if here then Some p else rest) ≡
    (if here then Some p.1.now else option_map (λ (row : Row). row.1.now) rest)
apart p true rest = refl
apart p false rest = refl

apart_plain : (p : ℕ × List ℕ) (here : Bool) (rest : Option (ℕ × List ℕ)) →
    option_map (λ (row : ℕ × List ℕ). row.1) (if here then Some p else rest) ≡
    (if here then Some p.1 else option_map (λ (row : ℕ × List ℕ). row.1) rest)
apart_plain p true rest = refl
apart_plain p false rest = refl

pub found_rows : (rows : List Row) (value : ℕ) →
    word_in (rows_of rows) value ≡ word_of_found rows value
found_rows [] value = refl
found_rows (row ∷ rows) value =
    apart_plain (row.0, row.1.now) (row.0 == value)
    (find (λ (r : ℕ × List ℕ). r.0 == value) (rows_of rows)) ∙
    one_more row rows value (row.0 == value) (found_rows rows value) ∙
    sym (apart row (row.0 == value) (find (λ (r : Row). r.0 == value) rows))
