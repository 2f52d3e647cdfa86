-- The first numbers of a list, after one more came.
use Rattle.std.proofs.Common.{◌≡◌, ℕ, ◌==◌, ◌&&◌, ◌||◌, not, Bool, true, false, cond, List, []}
use Rattle.std.proofs.Common.{◌∷◌, ◌++◌, filter, get_or, slice_get, Option, None, Some, refl, ap, ap₂, sym, ◌∙◌, true≢false, eqb-true}
use Rattle.std.proofs.lemmas.Bool.{and_parts}
use Rattle.std.proofs.lemmas.List.{append-nil}
use Rattle.std.proofs.lemmas.List.Elements.{filter-append}
use Rattle.std.proofs.lemmas.List.Folds.{list_any_at}
use Rattle.std.proofs.lemmas.Option.{get_or_from_slice_get, slice_get_within}
use Rattle.std.proofs.lemmas.Slice.Eq.{bytes_eq-Decides}
use Rattle.phone_values.specs.Numbers.{National}
use Rattle.phone_values.specs.declared.reading.Reading.{Reading}
use Rattle.phone_book.specs.Firsts.{firsts, is_among, is_same_extension, is_same_national, is_same_number}

-- two extensions that are one
same-extension : (a b : Option (List ℕ)) → is_same_extension a b ≡ true → a ≡ b
same-extension None None e = refl
same-extension None (Some y) e = absurd (true≢false (sym e))
same-extension (Some x) None e = absurd (true≢false (sym e))
same-extension (Some x) (Some y) e = ap (λ t. Some t) ((bytes_eq-Decides x y).0 e)

pub extension-same : (a : Option (List ℕ)) → is_same_extension a a ≡ true
extension-same None = refl
extension-same (Some x) = (bytes_eq-Decides x x).1 refl

-- what counts of two numbers that are the same
pub same-parts : (a b : Reading) → is_same_number a b ≡ true →
    (a.code.value ≡ b.code.value) × (a.national ≡ b.national) × (a.extension ≡ b.extension)
same-parts a b e =
    let both = and_parts (a.code.value == b.code.value) (is_same_national a.national b.national && is_same_extension a.extension b.extension) e in
    let rest = and_parts (is_same_national a.national b.national) (is_same_extension a.extension b.extension) both.1 in
    let parts = and_parts (a.national.zeros == b.national.zeros) (a.national.value == b.national.value) rest.0 in (
      eqb-true a.code.value b.code.value both.0,
      ap₂ (λ z v. let n : National = record { zeros = z; value = v } in n) (eqb-true a.national.zeros b.national.zeros parts.0)
          (eqb-true a.national.value b.national.value parts.1),
      same-extension a.extension b.extension rest.1,
    )

-- of two same numbers each is the same as a third, or none
pub same-alike : (a b n : Reading) → is_same_number a b ≡ true → is_same_number a n ≡ is_same_number b n
same-alike a b n e =
    let all = same-parts a b e in
    ap₂ (λ c b. (c == n.code.value) && b) all.0
    (ap₂ (λ m x. is_same_national m n.national && is_same_extension x n.extension) all.1 all.2)

-- a list less what is the same as one number, asked for another
others-among : (e n : Reading) (ms : List Reading) → is_same_number e n ≡ false → is_among n (filter (λ m. not (is_same_number e m)) ms) ≡ is_among n ms
others-among e n [] f = refl
others-among e n (m ∷ ms) f = at (others-among e n ms f) (is_same_number e m) refl
  where
    kept : List Reading
    kept = filter (λ m. not (is_same_number e m)) ms

    at : is_among n kept ≡ is_among n ms → (b : Bool) → is_same_number e m ≡ b →
        is_among n (cond (not (is_same_number e m)) (m ∷ kept) kept) ≡ (is_same_number m n || is_among n ms)
    at rest true g =
        ap (λ b. is_among n (cond (not b) (m ∷ kept) kept)) g
        ∙ rest ∙ sym (ap (λ b. b || is_among n ms) (sym (same-alike e m n g) ∙ f))
    at rest false g = ap (λ b. is_among n (cond (not b) (m ∷ kept) kept)) g ∙ ap (λ b. is_same_number m n || b) rest

-- what is among numbers is among the first of them
pub among-firsts : (n : Reading) (xs : List Reading) → is_among n (firsts xs) ≡ is_among n xs
among-firsts n [] = refl
among-firsts n (e ∷ xs) = at (among-firsts n xs) (is_same_number e n) refl
  where
    kept : List Reading
    kept = filter (λ m. not (is_same_number e m)) (firsts xs)

    at : is_among n (firsts xs) ≡ is_among n xs → (b : Bool) → is_same_number e n ≡ b →
        (is_same_number e n || is_among n kept) ≡ (is_same_number e n || is_among n xs)
    at rest true g = ap (λ b. b || is_among n kept) g ∙ sym (ap (λ b. b || is_among n xs) g)
    at rest false g = ap (λ b. is_same_number e n || b) (others-among e n (firsts xs) g ∙ rest)

-- one more of one number, in a list less what is the same
one : (e n : Reading) → (b : Bool) → is_same_number e n ≡ b → filter (λ m. not (is_same_number e m)) (n ∷ []) ≡ (cond b [] (n ∷ []))
one e n true g = ap (λ b. cond (not b) (n ∷ []) []) g
one e n false g = ap (λ b. cond (not b) (n ∷ []) []) g

one_more : (e n : Reading) (ms : List Reading) (b : Bool) → is_same_number e n ≡ b →
    filter (λ m. not (is_same_number e m)) (ms ++ n ∷ []) ≡ filter (λ m. not (is_same_number e m)) ms ++ cond b [] (n ∷ [])
one_more e n ms b g =
    filter-append (λ m. not (is_same_number e m)) ms (n ∷ [])
    ∙ ap (λ xs. filter (λ m. not (is_same_number e m)) ms ++ xs) (one e n b g)

-- a number that is new comes last
pub firsts-new : (xs : List Reading) (n : Reading) → is_among n xs ≡ false → firsts (xs ++ n ∷ []) ≡ firsts xs ++ n ∷ []
firsts-new [] n f = refl
firsts-new (e ∷ xs) n f = at (firsts-new xs n) (is_same_number e n) refl
  where
    at : (is_among n xs ≡ false → firsts (xs ++ n ∷ []) ≡ firsts xs ++ n ∷ []) → (b : Bool) → is_same_number e n ≡ b →
        firsts ((e ∷ xs) ++ n ∷ []) ≡ firsts (e ∷ xs) ++ n ∷ []
    at more true g = absurd (true≢false (sym (ap (λ b. b || is_among n xs) g) ∙ f))
    at more false g =
        let rest : is_among n xs ≡ false = sym (ap (λ b. b || is_among n xs) g) ∙ f in
        ap (λ ms. e ∷ filter (λ m. not (is_same_number e m)) ms) (more rest)
        ∙ ap (λ ms. e ∷ ms) (one_more e n (firsts xs) false g)

-- a number that is there leaves them as they are
pub firsts-present : (xs : List Reading) (n : Reading) → is_among n xs ≡ true → firsts (xs ++ n ∷ []) ≡ firsts xs
firsts-present [] n f = absurd (true≢false (sym f))
firsts-present (e ∷ xs) n f = at (firsts-present xs n) (is_same_number e n) (is_among n xs) refl refl
  where
    at : (is_among n xs ≡ true → firsts (xs ++ n ∷ []) ≡ firsts xs) → (b c : Bool) → is_same_number e n ≡ b → is_among n xs ≡ c →
        firsts ((e ∷ xs) ++ n ∷ []) ≡ firsts (e ∷ xs)
    at more b true g h = ap (λ ms. e ∷ filter (λ m. not (is_same_number e m)) ms) (more h)
    at more true false g h =
        ap (λ ms. e ∷ filter (λ m. not (is_same_number e m)) ms) (firsts-new xs n h)
        ∙ ap (λ ms. e ∷ ms) (one_more e n (firsts xs) true g ∙ append-nil (filter (λ m. not (is_same_number e m)) (firsts xs)))
    at more false false g h = absurd (true≢false (sym f ∙ ap₂ ◌||◌ g h))

-- a number that stands at a place is among them
pub among-at : (n e : Reading) (xs : List Reading) (k : ℕ) → slice_get xs k ≡ Some e → is_same_number e n ≡ true → is_among n xs ≡ true
among-at n e xs k at same =
    let stands : is_same_number (get_or xs k e) n ≡ true = ap (λ m. is_same_number m n) (get_or_from_slice_get xs k e e at) ∙ same in
    list_any_at (λ m. is_same_number m n) xs k e (slice_get_within xs k e at) stands
