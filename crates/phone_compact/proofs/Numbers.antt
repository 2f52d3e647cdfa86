-- How a number is written, by whether a byte suffices.
use Rattle.std.proofs.Common.{◌≡◌, ◌∙◌, sym, ap, ap₂, arith, ◌≤◌, suc, ◌+◌, ◌-◌, ◌/◌, ◌%◌, ◌<◌, List, [], ◌∷◌, ◌++◌, ℕ}
use Rattle.std.specs.Prelude.{replicate}
use Rattle.std.proofs.Common.{inl, inr, ◌⊎◌}
use Rattle.std.proofs.lemmas.Bool.{cases_lt}
use Rattle.phone_compact.specs.Forms.{number_written}

pub small_number : (n : ℕ) → n < 255 → number_written n ≡ n ∷ []
small_number n small =
    let none : n / 255 ≡ 0 = omega arith in
    let all : n % 255 ≡ n = omega arith in
    ap₂ (λ k r. replicate k 255 ++ (r ∷ [])) none all

pub great_number : (n : ℕ) → 255 ≤ n → number_written n ≡ 255 ∷ number_written (n - 255)
great_number n great =
    let one : n / 255 ≡ suc ((n - 255) / 255) = omega arith in
    let same : n % 255 ≡ (n - 255) % 255 = omega arith in
    ap₂ (λ k r. replicate k 255 ++ (r ∷ [])) one same

-- more written before a byte that is not the last
pub after_full : (n : ℕ) (bytes rest : List ℕ) → bytes ≡ number_written n ++ rest →
    255 ∷ bytes ≡ number_written (255 + n) ++ rest
after_full n bytes rest e =
    let great : 255 ≤ 255 + n = omega arith in
    let less : 255 + n - 255 ≡ n = omega arith in
    ap (λ bs. 255 ∷ bs) e ∙ ap (λ bs. bs ++ rest) (sym (great_number (255 + n) great ∙ ap (λ m. 255 ∷ number_written m) less))

-- what comes next adds to the number so far
abbrev pub AddsTo : List ℕ → ℕ → List ℕ → Type 0
AddsTo whole k now = (m : ℕ) (rest : List ℕ) → now ≡ number_written m ++ rest →
    whole ≡ number_written (k + m) ++ rest

-- of a whole number, what is left is to come
abbrev pub IsLeft : List ℕ → ℕ → List ℕ → Type 0
IsLeft whole k now = (n : ℕ) (rest : List ℕ) → whole ≡ number_written n ++ rest →
    (m : ℕ) × ((n ≡ k + m) × (now ≡ number_written m ++ rest))

pub adds_more : (whole now after : List ℕ) (k : ℕ) → now ≡ 255 ∷ after → AddsTo whole k now →
    AddsTo whole (k + 255) after
adds_more whole now after k e adds m rest h =
    let same : k + (255 + m) ≡ k + 255 + m = omega arith in
    adds (255 + m) rest (e ∙ after_full m after rest h) ∙ ap (λ n. number_written n ++ rest) same

left_by_size : (now after : List ℕ) (k n m : ℕ) (rest : List ℕ) → now ≡ 255 ∷ after →
    n ≡ k + m → now ≡ number_written m ++ rest → (m < 255) ⊎ (255 ≤ m) →
    (l : ℕ) × ((n ≡ k + 255 + l) × (after ≡ number_written l ++ rest))
left_by_size now after k n m rest e whole h (inl small) =
    let heads : 255 ∷ after ≡ m ∷ rest = sym e ∙ (h ∙ ap (λ bs. bs ++ rest) (small_number m small)) in
    let same : 255 ≡ m = cc in
    absurd (omega arith)
left_by_size now after k n m rest e whole h (inr great) =
    let heads : 255 ∷ after ≡ 255 ∷ (number_written (m - 255) ++ rest) = sym e ∙ (h ∙ ap (λ bs. bs ++ rest) (great_number m great)) in
    let tails : after ≡ number_written (m - 255) ++ rest = cc in
    (m - 255, (omega arith, tails))

pub left_more : (whole now after : List ℕ) (k : ℕ) → now ≡ 255 ∷ after → IsLeft whole k now →
    IsLeft whole (k + 255) after
left_more whole now after k e left n rest h =
    let (m, (same, next)) = left n rest h in
    left_by_size now after k n m rest e same next (cases_lt m 255)

-- a byte says how much is left at least
pub at_least : (now after rest : List ℕ) (byte m : ℕ) → byte < 256 → now ≡ byte ∷ after →
    now ≡ number_written m ++ rest → (m < 255) ⊎ (255 ≤ m) → byte ≤ m
at_least now after rest byte m byte_fits e h (inl small) =
    let heads : byte ∷ after ≡ m ∷ rest = sym e ∙ (h ∙ ap (λ bs. bs ++ rest) (small_number m small)) in
    let same : byte ≡ m = cc in
    omega arith
at_least now after rest byte m byte_fits e h (inr great) = omega arith
