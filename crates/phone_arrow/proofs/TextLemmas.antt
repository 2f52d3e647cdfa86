-- How many texts a column has, and the one at a place.
use Rattle.std.proofs.Common.{◌≡◌, ℕ, zero, suc, ◌+◌, ◌-◌, ◌<◌, ◌≤◌, ◌^◌, ◌&&◌, Bool, true, false, nat_le, nat_lt, List, [], ◌∷◌, Option, None, Some, length, get_or, slice_range, if◌then◌else◌, refl, sym, ap, subst, ◌∙◌, arith}
use Rattle.std.proofs.lemmas.Bool.{and_parts, leb-true, ltb-true}
use Rattle.phone_arrow.specs.Bits.{is_set}
use Rattle.phone_arrow.specs.Texts.{are_ascending, between, has_flags, is_column, texts_in, where_set}

length-between : (bytes offsets : List ℕ) → length (between bytes offsets) ≡ length offsets - 1
length-between bytes [] = refl
length-between bytes (a ∷ []) = refl
length-between bytes (a ∷ b ∷ os) =
    let ih : length (between bytes (b ∷ os)) ≡ length (b ∷ os) - 1 = length-between bytes (b ∷ os) in
    omega (arith, ih)

length-where_set : (bits : List ℕ) (k : ℕ) (ts : List (List ℕ)) → length (where_set bits k ts) ≡ length ts
length-where_set bits k [] = refl
length-where_set bits k (t ∷ ts) = ap suc (length-where_set bits (k + 1) ts)

pub length-texts_in : (offsets bytes bits : List ℕ) (first : ℕ) → length (texts_in offsets bytes bits first) ≡ length offsets - 1
length-texts_in offsets bytes bits first = length-where_set bits first (between bytes offsets) ∙ length-between bytes offsets

-- a text that may not be there
abbrev if_set : Bool → List ℕ → Option (List ℕ)
if_set b text = if b then Some text else None

get-where_set : (bits : List ℕ) (k : ℕ) (ts : List (List ℕ)) (i : ℕ) → i < length ts →
    get_or (where_set bits k ts) i None ≡ if_set (is_set bits (k + i)) (get_or ts i [])
get-where_set bits k [] i h = absurd (omega (arith, h))
get-where_set bits k (t ∷ ts) zero h =
    let e : k ≡ k + 0 = omega arith in
    ap (λ (n : ℕ). if_set (is_set bits n) t) e
get-where_set bits k (t ∷ ts) (suc i) h =
    let e : (k + 1) + i ≡ k + suc i = omega arith in
    get-where_set bits (k + 1) ts i (omega (arith, h)) ∙
    ap (λ (n : ℕ). if_set (is_set bits n) (get_or ts i [])) e

get-between : (bytes offsets : List ℕ) (i : ℕ) → suc i < length offsets →
    get_or (between bytes offsets) i [] ≡ slice_range bytes (get_or offsets i 0) (get_or offsets (suc i) 0)
get-between bytes [] i h = absurd (omega (arith, h))
get-between bytes (a ∷ []) i h = absurd (omega (arith, h))
get-between bytes (a ∷ b ∷ os) zero h = refl
get-between bytes (a ∷ b ∷ os) (suc i) h = get-between bytes (b ∷ os) i (omega (arith, h))

-- the text at a place
get-texts_in : (offsets bytes bits : List ℕ) (first i : ℕ) → i + 1 < length offsets →
    get_or (texts_in offsets bytes bits first) i None ≡
    if_set (is_set bits (first + i)) (slice_range bytes (get_or offsets i 0) (get_or offsets (i + 1) 0))
get-texts_in offsets bytes bits first i h =
    let len : length (between bytes offsets) ≡ length offsets - 1 = length-between bytes offsets in
    let e : suc i ≡ i + 1 = omega arith in
    get-where_set bits first (between bytes offsets) i (omega (arith, len, h)) ∙
    ap (λ (t : List ℕ). if_set (is_set bits (first + i)) t) (get-between bytes offsets i (omega (arith, h))) ∙
    ap (λ (n : ℕ). if_set (is_set bits (first + i)) (slice_range bytes (get_or offsets i 0) (get_or offsets n 0))) e

-- where the flag is set, where it isn't, and past the last text
pub get-set : (now : List (Option (List ℕ))) (offsets bytes bits : List ℕ) (first i : ℕ) → texts_in offsets bytes bits first ≡ now →
    i + 1 < length offsets → is_set bits (first + i) ≡ true →
    Some (slice_range bytes (get_or offsets i 0) (get_or offsets (i + 1) 0)) ≡ get_or now i None
get-set now offsets bytes bits first i e h is =
    let text = slice_range bytes (get_or offsets i 0) (get_or offsets (i + 1) 0) in
    sym (ap (λ (xs : List (Option (List ℕ))). get_or xs i None) (sym e) ∙ get-texts_in offsets bytes bits first i h ∙
    ap (λ (b : Bool). if_set b text) is)

pub get-unset : (now : List (Option (List ℕ))) (offsets bytes bits : List ℕ) (first i : ℕ) → texts_in offsets bytes bits first ≡ now →
    i + 1 < length offsets → is_set bits (first + i) ≡ false → None ≡ get_or now i None
get-unset now offsets bytes bits first i e h is =
    let text = slice_range bytes (get_or offsets i 0) (get_or offsets (i + 1) 0) in
    sym (ap (λ (xs : List (Option (List ℕ))). get_or xs i None) (sym e) ∙ get-texts_in offsets bytes bits first i h ∙
    ap (λ (b : Bool). if_set b text) is)

get-past : {X : Type 0} (xs : List X) (i : ℕ) (d : X) → length xs ≤ i → d ≡ get_or xs i d
get-past [] i d h = refl
get-past (x ∷ xs) zero d h = absurd (omega (arith, h))
get-past (x ∷ xs) (suc i) d h = get-past xs i d (omega (arith, h))

pub get-texts-past : (now : List (Option (List ℕ))) (offsets bytes bits : List ℕ) (first i : ℕ) → texts_in offsets bytes bits first ≡ now →
    length offsets - 1 ≤ i → None ≡ get_or now i None
get-texts-past now offsets bytes bits first i e h =
    let len : length (texts_in offsets bytes bits first) ≡ length offsets - 1 = length-texts_in offsets bytes bits first in
    let past : None ≡ get_or (texts_in offsets bytes bits first) i None =
    get-past (texts_in offsets bytes bits first) i None (omega (arith, len, h)) in
    past ∙ ap (λ (xs : List (Option (List ℕ))). get_or xs i None) e

-- offsets that ascend: from one to the next, and within the bytes
first_below : (before : ℕ) (os : List ℕ) (last : ℕ) → are_ascending before os last ≡ true → before ≤ last
first_below before [] last h = leb-true before last h
first_below before (o ∷ os) last h =
    let p = and_parts (nat_le before o) (are_ascending o os last) h in
    let a : before ≤ o = leb-true before o p.0 in
    let b : o ≤ last = first_below o os last p.1 in
    omega (arith, a, b)

abbrev AreNeighbours : List ℕ → ℕ → ℕ → ℕ → Type 0
AreNeighbours os last i j = (get_or os i 0 ≤ get_or os j 0) × (get_or os j 0 ≤ last)

ascend : (before : ℕ) (os : List ℕ) (last i : ℕ) → are_ascending before os last ≡ true → suc i < length os →
    AreNeighbours os last i (suc i)
ascend before [] last i h k = absurd (omega (arith, k))
ascend before (a ∷ []) last i h k = absurd (omega (arith, k))
ascend before (a ∷ b ∷ os) last zero h k =
    let p = and_parts (nat_le before a) (are_ascending a (b ∷ os) last) h in
    let q = and_parts (nat_le a b) (are_ascending b os last) p.1 in
    (leb-true a b q.0, first_below b os last q.1)
ascend before (a ∷ b ∷ os) last (suc i) h k =
    let p = and_parts (nat_le before a) (are_ascending a (b ∷ os) last) h in
    ascend a (b ∷ os) last i p.1 (omega (arith, k))

pub neighbours : (before : ℕ) (os : List ℕ) (last i : ℕ) → are_ascending before os last ≡ true → i + 1 < length os →
    AreNeighbours os last i (i + 1)
neighbours before os last i h k =
    let e : suc i ≡ i + 1 = omega arith in
    subst (λ (j : ℕ). AreNeighbours os last i j) e (ascend before os last i h (omega (arith, k)))
