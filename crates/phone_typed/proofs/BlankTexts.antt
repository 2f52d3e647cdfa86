-- Texts with a zero for each key: what is left to tell are the marks, and where they stand.
use Rattle.std.proofs.Common.{◌≡◌, ℕ, suc, zero, ◌+◌, ◌≤◌, Bool, true, false, if◌then◌else◌, cond, List, [], ◌∷◌, ◌++◌, map, take, length, filter, refl, ap, sym, ◌∙◌, arith, true≢false}
use Rattle.std.proofs.lemmas.Bool.{and_parts}
use Rattle.std.specs.List.{list_all}
use Rattle.phone_typed.specs.Keys.{is_key, up_to_key}

-- a zero for a key
abbrev pub blank : ℕ → ℕ
blank c = if is_key c then 48 else c

-- a zero for each key of a text
abbrev pub blanks : List ℕ → List ℕ
blanks text = map blank text

blank_key : (c : ℕ) → is_key (blank c) ≡ is_key c
blank_key c = at (is_key c) refl
  where
    at : (b : Bool) → is_key c ≡ b → is_key (cond b 48 c) ≡ b
    at true e = refl
    at false e = e

-- keys of the same number look alike
pub keys_blank : (a b : List ℕ) → list_all is_key a ≡ true → list_all is_key b ≡ true → length a ≡ length b → blanks a ≡ blanks b
keys_blank [] [] ha hb e = refl
keys_blank [] (d ∷ b) ha hb e = absurd (omega (arith, e))
keys_blank (c ∷ a) [] ha hb e = absurd (omega (arith, e))
keys_blank (c ∷ a) (d ∷ b) ha hb e =
    let first = and_parts (is_key c) (list_all is_key a) ha in
    let other = and_parts (is_key d) (list_all is_key b) hb in
    let fewer : length a ≡ length b = omega (arith, e) in
    ap (λ k. cond k 48 c ∷ blanks a) first.0 ∙ ap (λ t. 48 ∷ t) (keys_blank a b first.1 other.1 fewer) ∙ sym (ap (λ k. cond k 48 d ∷ blanks b) other.0)

-- texts that look alike and have the same keys are the same
pub same_text : (a b : List ℕ) → blanks a ≡ blanks b → filter is_key a ≡ filter is_key b → a ≡ b
same_text [] [] look keys = refl
same_text [] (d ∷ b) look keys = absurd (cc)
same_text (c ∷ a) [] look keys = absurd (cc)
same_text (c ∷ a) (d ∷ b) look keys =
    let first : blank c ≡ blank d = cc in
    let more : blanks a ≡ blanks b = cc in
    let kind : is_key c ≡ is_key d = sym (blank_key c) ∙ ap is_key first ∙ blank_key d in
    at (is_key c) (is_key d) refl refl kind first keys (λ k. same_text a b more k)
  where
    at : (x y : Bool) → is_key c ≡ x → is_key d ≡ y → x ≡ y → cond x 48 c ≡ cond y 48 d →
        cond x (c ∷ filter is_key a) (filter is_key a) ≡ cond y (d ∷ filter is_key b) (filter is_key b) →
        (filter is_key a ≡ filter is_key b → a ≡ b) → c ∷ a ≡ d ∷ b
    at true true ec ed e one keys more =
        let same : c ≡ d = cc in
        let left : filter is_key a ≡ filter is_key b = cc in
        let rest = more left in cc
    at false false ec ed e one keys more = let rest = more keys in cc
    at true false ec ed e one keys more = absurd (true≢false e)
    at false true ec ed e one keys more = absurd (true≢false (sym e))

-- the beginning up to a key looks as the beginning of what the text looks like
pub up_to_key-blanks : (n : ℕ) (text : List ℕ) → blanks (up_to_key n text) ≡ up_to_key n (blanks text)
up_to_key-blanks zero text = refl
up_to_key-blanks (suc n) [] = refl
up_to_key-blanks (suc n) (c ∷ text) =
    ap (λ t. blank c ∷ t) (up_to_key-blanks (if is_key c then n else suc n) text
    ∙ ap (λ b. up_to_key (if b then n else suc n) (blanks text)) (sym (blank_key c)))

-- it has the first keys
pub filter-up_to_key : (n : ℕ) (text : List ℕ) → filter is_key (up_to_key n text) ≡ take n (filter is_key text)
filter-up_to_key zero text = refl
filter-up_to_key (suc n) [] = refl
filter-up_to_key (suc n) (c ∷ text) = at (is_key c) (filter-up_to_key n text) (filter-up_to_key (suc n) text)
  where
    at : (b : Bool) → filter is_key (up_to_key n text) ≡ take n (filter is_key text) → filter is_key (up_to_key (suc n) text) ≡ take (suc n) (filter is_key text) →
        cond b (c ∷ filter is_key (up_to_key (if b then n else suc n) text)) (filter is_key (up_to_key (if b then n else suc n) text))
        ≡ take (suc n) (cond b (c ∷ filter is_key text) (filter is_key text))
    at true fewer same = ap (λ t. c ∷ t) fewer
    at false fewer same = same

-- where the text has so many keys, what stands behind it doesn't count
pub up_to_key-front : (n : ℕ) (text more : List ℕ) → n ≤ length (filter is_key text) → up_to_key n (text ++ more) ≡ up_to_key n text
up_to_key-front zero text more some = refl
up_to_key-front (suc n) [] more some = absurd (omega (arith, some))
up_to_key-front (suc n) (c ∷ text) more some = at (is_key c) some (λ k. up_to_key-front n text more k) (λ k. up_to_key-front (suc n) text more k)
  where
    at : (b : Bool) → suc n ≤ length (cond b (c ∷ filter is_key text) (filter is_key text)) →
        (n ≤ length (filter is_key text) → up_to_key n (text ++ more) ≡ up_to_key n text) →
        (suc n ≤ length (filter is_key text) → up_to_key (suc n) (text ++ more) ≡ up_to_key (suc n) text) →
        c ∷ up_to_key (if b then n else suc n) (text ++ more) ≡ c ∷ up_to_key (if b then n else suc n) text
    at true some fewer same = ap (λ t. c ∷ t) (fewer (omega (arith, some)))
    at false some fewer same = ap (λ t. c ∷ t) (same some)

-- past keys fewer are to come
pub up_to_key-keys : (keys text : List ℕ) (n total : ℕ) → list_all is_key keys ≡ true → total ≡ length keys + n →
    up_to_key total (keys ++ text) ≡ keys ++ up_to_key n text
up_to_key-keys [] text n total are e = (let same : total ≡ n = omega (arith, e) in ap (λ i. up_to_key i text) same)
up_to_key-keys (k ∷ keys) text n total are e =
    let parts = and_parts (is_key k) (list_all is_key keys) are in
    let next : total ≡ suc (length keys + n) = omega (arith, e) in
    ap (λ i. up_to_key i (k ∷ (keys ++ text))) next
    ∙ ap (λ b. k ∷ up_to_key (if b then length keys + n else suc (length keys + n)) (keys ++ text)) parts.0
    ∙ ap (λ t. k ∷ t) (up_to_key-keys keys text n (length keys + n) parts.1 refl)

-- as many zeros as keys
length-filter-blanks : (text : List ℕ) → length (filter is_key (blanks text)) ≡ length (filter is_key text)
length-filter-blanks [] = refl
length-filter-blanks (c ∷ text) =
    ap (λ b. length (cond b (blank c ∷ filter is_key (blanks text)) (filter is_key (blanks text)))) (blank_key c) ∙ at (is_key c) (length-filter-blanks text)
  where
    at : (b : Bool) → length (filter is_key (blanks text)) ≡ length (filter is_key text) →
        length (cond b (blank c ∷ filter is_key (blanks text)) (filter is_key (blanks text))) ≡ length (cond b (c ∷ filter is_key text) (filter is_key text))
    at true e = ap suc e
    at false e = e

-- a text with others behind it, up to a key that it has, is another that looks like it and has the same keys so far
pub same_front : (n : ℕ) (text other more : List ℕ) → blanks other ≡ blanks text → n ≤ length (filter is_key text) →
    filter is_key (up_to_key n (other ++ more)) ≡ take n (filter is_key text) → up_to_key n (other ++ more) ≡ up_to_key n text
same_front n text other more look some keys =
    let as_many : n ≤ length (filter is_key other) =
    omega (arith, some, length-filter-blanks text, length-filter-blanks other, ap (λ t. length (filter is_key t)) look) in
    same_text (up_to_key n (other ++ more)) (up_to_key n text)
    (ap blanks (up_to_key-front n other more as_many) ∙ up_to_key-blanks n other ∙ ap (up_to_key n) look ∙ sym (up_to_key-blanks n text))
    (keys ∙ sym (filter-up_to_key n text))
