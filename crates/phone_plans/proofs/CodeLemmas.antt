-- The first territory of a code, and its territories put together.
use Rattle.std.proofs.Common.{map, option_map, ◌≡◌, ℕ, ◌+◌, ◌<◌, ◌&&◌, Bool, true, false, cond, List, [], ◌∷◌, ◌++◌, length, filter, reverse, Option, None, Some, refl, ap, ap₂, sym, ◌∙◌, arith}
use Rattle.std.proofs.lemmas.List.{map-append, reverse-append}
use Rattle.std.proofs.lemmas.List.Folds.{find-append}
use Rattle.std.specs.List.{find, last_or}
use Rattle.std.specs.Option.{option_or}
use Rattle.phone_plans.specs.CodeLookUps.{first_of, if_any, is_main, is_main_of, is_other, is_other_of, territories}
use Rattle.phone_plans.specs.Records.{has_code}
use Rattle.phone_records.specs.declared.loader.Metadata.{Metadata}

pub first_of-append : {X : Type 0} (xs ys : List X) → first_of (xs ++ ys) ≡ option_or (first_of xs) (first_of ys)
first_of-append [] ys = refl
first_of-append (x ∷ xs) ys = refl

pub first_of-filter : {X : Type 0} (p : X → Bool) (xs : List X) → first_of (filter p xs) ≡ find p xs
first_of-filter p [] = refl
first_of-filter p (x ∷ xs) = step (p x) (first_of-filter p xs)
  where
    step : (b : Bool) → first_of (filter p xs) ≡ find p xs → first_of (cond b (x ∷ filter p xs) (filter p xs)) ≡ cond b (Some x) (find p xs)
    step true e = refl
    step false e = e

-- what passes both
pub filter-filter : {X : Type 0} (p q : X → Bool) (xs : List X) → filter q (filter p xs) ≡ filter (λ x. p x && q x) xs
filter-filter p q [] = refl
filter-filter p q (x ∷ xs) = step (p x) (filter-filter p q xs)
  where
    step : (b : Bool) → filter q (filter p xs) ≡ filter (λ x. p x && q x) xs →
        filter q (cond b (x ∷ filter p xs) (filter p xs)) ≡ cond (b && q x) (x ∷ filter (λ x. p x && q x) xs) (filter (λ x. p x && q x) xs)
    step true e = ap (λ ys. cond (q x) (x ∷ ys) ys) e
    step false e = e

-- the first of what passes one test that passes another
pub find-filter : {X : Type 0} (p q : X → Bool) (xs : List X) → find q (filter p xs) ≡ find (λ x. p x && q x) xs
find-filter p q xs = sym (first_of-filter q (filter p xs)) ∙ ap first_of (filter-filter p q xs) ∙ first_of-filter (λ x. p x && q x) xs

option_or-none : {X : Type 0} (o : Option X) → option_or o None ≡ o
option_or-none None = refl
option_or-none (Some x) = refl

-- the latest that passes comes first in the reverse
pub first_of-reverse : {X : Type 0} (p : X → Bool) (xs : List X) → first_of (reverse (filter p xs)) ≡ find p (reverse xs)
first_of-reverse p [] = refl
first_of-reverse p (x ∷ xs) =
    step (p x)
    ∙ ap₂ option_or (first_of-reverse p xs) (refl {a = cond (p x) (Some x) None})
    ∙ sym (find-append p (reverse xs) (x ∷ []))
    ∙ ap (find p) (sym (reverse-append (x ∷ []) xs))
  where
    step : (b : Bool) → first_of (reverse (cond b (x ∷ filter p xs) (filter p xs))) ≡ option_or (first_of (reverse (filter p xs))) (cond b (Some x) None)
    step true = ap first_of (reverse-append (x ∷ []) (filter p xs)) ∙ first_of-append (reverse (filter p xs)) (x ∷ [])
    step false = sym (option_or-none (first_of (reverse (filter p xs))))

option_or-assoc : {X : Type 0} (a b c : Option X) → option_or (option_or a b) c ≡ option_or a (option_or b c)
option_or-assoc None b c = refl
option_or-assoc (Some x) b c = refl

-- the last of a list comes first in the reverse
last_or-reverse : {X : Type 0} (o : Option X) (xs : List X) → last_or o xs ≡ option_or (first_of (reverse xs)) o
last_or-reverse o [] = refl
last_or-reverse o (x ∷ xs) =
    last_or-reverse (Some x) xs
    ∙ sym (option_or-assoc (first_of (reverse xs)) (Some x) o)
    ∙ ap (λ a. option_or a o) (sym (ap first_of (reverse-append (x ∷ []) xs) ∙ first_of-append (reverse xs) (x ∷ [])))

last_or-map : {X Y : Type 0} (f : X → Y) (o : Option X) (xs : List X) → option_map f (last_or o xs) ≡ last_or (option_map f o) (map f xs)
last_or-map f o [] = refl
last_or-map f o (x ∷ xs) = last_or-map f (Some x) xs

-- the last of what passes, read off the items that were yielded
pub last-find : {X Y : Type 0} (f : X → Y) (p : Y → Bool) (xs : List X) (ys : List Y) → map f xs ≡ filter p ys → option_map f (last_or None xs) ≡ find p (reverse ys)
last-find f p xs ys e =
    last_or-map f None xs ∙ ap (last_or None) e ∙ last_or-reverse None (filter p ys)
    ∙ option_or-none (first_of (reverse (filter p ys)))
    ∙ first_of-reverse p ys

-- the first territory of a code: its latest main one, or else its earliest
pub first_of-territories : (code : ℕ) (db : List Metadata) → option_or (find (is_main_of code) (reverse db)) (find (is_other_of code) db) ≡ first_of (territories code db)
first_of-territories code db =
    ap₂ option_or (sym (first_of-reverse (is_main_of code) db)) (sym (first_of-filter (is_other_of code) db))
    ∙ sym (first_of-append (reverse (filter (is_main_of code) db)) (filter (is_other_of code) db))

-- the same by the territories of the code, in order of arrival
pub first_of-given : (code : ℕ) (db all : List Metadata) → all ≡ filter (has_code code) db →
    option_or (find is_main (reverse all)) (find is_other all) ≡ first_of (territories code db)
first_of-given code db all are =
    ap (λ ms. option_or (find is_main (reverse ms)) (find is_other ms)) are
    ∙ ap₂ option_or
    (sym (first_of-reverse is_main (filter (has_code code) db)) ∙ ap (λ ms. first_of (reverse ms)) (filter-filter (has_code code) is_main db) ∙ first_of-reverse (is_main_of code) db)
    (find-filter (has_code code) is_other db)
    ∙ first_of-territories code db

pub map-reverse : {X Y : Type 0} (f : X → Y) (xs : List X) → map f (reverse xs) ≡ reverse (map f xs)
map-reverse f [] = refl
map-reverse f (x ∷ xs) =
    ap (map f) (reverse-append (x ∷ []) xs)
    ∙ map-append f (reverse xs) (x ∷ [])
    ∙ ap (λ ys. ys ++ f x ∷ []) (map-reverse f xs)
    ∙ sym (reverse-append (f x ∷ []) (map f xs))

pub if_any-some : {X Y : Type 0} (f : X → Y) (xs : List X) → 0 < length xs → Some (map f xs) ≡ if_any (map f xs)
if_any-some f [] h = absurd (omega (arith, h))
if_any-some f (x ∷ xs) h = refl

pub if_any-map : {X Y : Type 0} (f : X → Y) (xs ys : List X) → Some xs ≡ if_any ys → Some (map f xs) ≡ if_any (map f ys)
if_any-map f xs [] e = ap (option_map (map f)) e
if_any-map f xs (y ∷ ys) e = ap (option_map (map f)) e

-- the parts of a code's territories, put together
pub territories-parts : {B : Type 0} (now : B → Metadata) (code : ℕ) (db : List Metadata) (mains turned others all : List B) →
    map now mains ≡ filter (is_main_of code) db → turned ≡ reverse mains → map now others ≡ filter (is_other_of code) db → all ≡ turned ++ others →
    map now all ≡ territories code db
territories-parts now code db mains turned others all m t o a =
    ap (map now) a ∙ map-append now turned others
    ∙ ap₂ (λ xs ys. xs ++ ys) (ap (map now) t ∙ map-reverse now mains ∙ ap reverse m) o

pub map-map : {X Y Z : Type 0} (f : Y → Z) (g : X → Y) (xs : List X) → map (λ x. f (g x)) xs ≡ map f (map g xs)
map-map f g [] = refl
map-map f g (x ∷ xs) = ap (λ ys. f (g x) ∷ ys) (map-map f g xs)
