-- Places with ids and with codes, as they are written down, and listed codes that two lists tell alike.
use Rattle.std.proofs.Common.{◌≡◌, ℕ, Bool, true, false, cond, List, [], ◌∷◌, ◌++◌, ◌+◌, ◌<◌, ◌==◌, ◌||◌, not, map, filter, reverse, take, length, get_or, Option, Some, option_map, refl, ap, sym, subst, ◌∙◌, arith}
use Rattle.std.proofs.lemmas.Bool.{and_from, and_parts, false_from_ne_true, true≢false}
use Rattle.std.proofs.lemmas.Bool.Decides.{nat_tests}
use Rattle.std.proofs.lemmas.List.{map-append, reverse-append, take_more}
use Rattle.std.proofs.lemmas.List.Elements.{filter-append}
use Rattle.std.specs.List.{find, list_all, list_any}
use Rattle.std.specs.Str.{bytes_eq}
use Rattle.phone_plans.specs.CodeLookUps.{begins, is_listed, is_prefix_free}
use Rattle.phone_territory.specs.Records.{code_of, id_of}
use Rattle.phone_plans.specs.Records.{has_code, has_id, last_place, places_where}
use Rattle.phone_plans.proofs.Places.{last_place-take, one_if, places_where-take}
use Rattle.phone_records.specs.declared.loader.Metadata.{Metadata}
use Rattle.phone_index.specs.Orders as placed
use Rattle.phone_index.specs.declared.grouped.Coded.{Coded}
use Rattle.phone_index.specs.declared.sorted.Named.{Named}
use Rattle.phone_index.specs.ListedCodes.{is_in}
use Rattle.phone_index.specs.ListedCodes as trie

found : (b : Bool) (e : Named) (o : Option Named) → option_map (λ e. e.place) (cond b (Some e) o) ≡ cond b (Some e.place) (option_map (λ e. e.place) o)
found true e o = refl
found false e o = refl

-- the place of a text, with one entry more
pub place_of-push : (id : List ℕ) (es : List Named) (e : Named) → placed.place_of id (reverse (es ++ e ∷ [])) ≡ cond (bytes_eq (placed.text_of e) id) (Some e.place) (placed.place_of id (reverse es))
place_of-push id es e =
    ap (placed.place_of id) (reverse-append es (e ∷ []))
    ∙ found (bytes_eq (placed.text_of e) id) e (find (λ e. bytes_eq (placed.text_of e) id) (reverse es))

-- a turn of the loop that writes the ids down
pub place_of-take : (id : List ℕ) (db : List Metadata) (k : ℕ) (m : Metadata) (es : List Named) (e : Named) → k < length db → m ≡ get_or db k m → placed.text_of e ≡ id_of m → e.place ≡ k →
    placed.place_of id (reverse es) ≡ last_place (has_id id) (take k db) → placed.place_of id (reverse (es ++ e ∷ [])) ≡ last_place (has_id id) (take (k + 1) db)
place_of-take id db k m es e small at text place before =
    place_of-push id es e
    ∙ ap (λ n. cond (bytes_eq (placed.text_of e) id) (Some n) (placed.place_of id (reverse es))) place
    ∙ last_place-take (has_id id) db k m (bytes_eq (placed.text_of e) id) (placed.place_of id (reverse es)) small at (ap (λ t. bytes_eq t id) text) before

-- the ids that were written down
pub ids-take : (db : List Metadata) (k : ℕ) (m : Metadata) (es : List Named) (e : Named) → k < length db → m ≡ get_or db k m → placed.text_of e ≡ id_of m →
    map placed.text_of es ≡ map id_of (take k db) → map placed.text_of (es ++ e ∷ []) ≡ map id_of (take (k + 1) db)
ids-take db k m es e small at text before =
    rw (map-append placed.text_of es (e ∷ []), before, text, take_more db k m small, ← at, map-append id_of (take k db) (m ∷ [])) refl

-- a turn of the loop that writes the codes down
pub places-take : (code : ℕ) (db : List Metadata) (k : ℕ) (m : Metadata) (es : List Coded) (e : Coded) → k < length db → m ≡ get_or db k m → e.code ≡ code_of m → e.place ≡ k →
    map (λ e. e.place) (filter (placed.has_code code) es) ≡ places_where (has_code code) (take k db) →
    map (λ e. e.place) (filter (placed.has_code code) (es ++ e ∷ [])) ≡ places_where (has_code code) (take (k + 1) db)
places-take code db k m es e small at same place before =
    ap (map (λ e. e.place)) (filter-append (placed.has_code code) es (e ∷ []))
    ∙ map-append (λ e. e.place) (filter (placed.has_code code) es) (filter (placed.has_code code) (e ∷ []))
    ∙ ap (λ ks. ks ++ map (λ e. e.place) (filter (placed.has_code code) (e ∷ []))) before
    ∙ ap (λ ks. places_where (has_code code) (take k db) ++ ks) (one (placed.has_code code e) ∙ ap (one_if (placed.has_code code e)) place ∙ ap (λ c. one_if (c == code) k) same)
    ∙ sym (places_where-take (has_code code) db k m (has_code code m) small at refl)
  where
    one : (b : Bool) → map (λ e. e.place) (cond b (e ∷ []) []) ≡ one_if b e.place
    one true = refl
    one false = refl

either_way : (a b : Bool) → (a ≡ true → b ≡ true) → (b ≡ true → a ≡ true) → a ≡ b
either_way true b f g = sym (f refl)
either_way false b f g = sym (false_from_ne_true b (λ t. true≢false (sym (g t))))

-- what holds of all of a list holds of each
all_at : {X : Type 0} (n : X → ℕ) (q : ℕ → Bool) (xs : List X) (c : ℕ) → list_all (λ x. q (n x)) xs ≡ true → list_any (λ x. n x == c) xs ≡ true → q c ≡ true
all_at n q [] c all any = absurd (true≢false (sym any))
all_at n q (x ∷ xs) c all any =
    let both = and_parts (q (n x)) (list_all (λ x. q (n x)) xs) all in
    step (n x == c) refl any both.0 (all_at n q xs c both.1)
  where
    step : (b : Bool) → (n x == c) ≡ b → (b || list_any (λ x. n x == c) xs) ≡ true → q (n x) ≡ true → (list_any (λ x. n x == c) xs ≡ true → q c ≡ true) → q c ≡ true
    step true e any here later = subst (λ k. q k ≡ true) (grind (arith, nat_tests, e)) here
    step false e any here later = later any

all_from : {X : Type 0} (n : X → ℕ) (q : ℕ → Bool) (xs : List X) → ((c : ℕ) → list_any (λ x. n x == c) xs ≡ true → q c ≡ true) → list_all (λ x. q (n x)) xs ≡ true
all_from n q [] f = refl
all_from n q (x ∷ xs) f = and_from (q (n x)) (list_all (λ x. q (n x)) xs) (f (n x) (ap (λ b. b || list_any (λ y. n y == n x) xs) (own (n x)))) (all_from n q xs (λ c any. f c (later c (n x == c) any)))
  where
    own : (k : ℕ) → (k == k) ≡ true
    own k = grind (arith, nat_tests)

    later : (c : ℕ) (b : Bool) → list_any (λ y. n y == c) xs ≡ true → (b || list_any (λ y. n y == c) xs) ≡ true
    later c true any = refl
    later c false any = any

-- what holds of all numbers of one list holds of all of another that has the same ones
all_alike : {X Y : Type 0} (n : X → ℕ) (m : Y → ℕ) (q : ℕ → Bool) (xs : List X) (ys : List Y) → ((c : ℕ) → list_any (λ x. n x == c) xs ≡ list_any (λ y. m y == c) ys) →
    list_all (λ x. q (n x)) xs ≡ list_all (λ y. q (m y)) ys
all_alike n m q xs ys same = either_way _ _
    (λ all. all_from m q ys (λ c any. all_at n q xs c all (same c ∙ any)))
    (λ all. all_from n q xs (λ c any. all_at m q ys c all (sym (same c) ∙ any)))

all_same : {X : Type 0} (p q : X → Bool) (xs : List X) → ((x : X) → p x ≡ q x) → list_all p xs ≡ list_all q xs
all_same p q [] f = refl
all_same p q (x ∷ xs) f = rw (f x, all_same p q xs f) refl

-- codes are free of beginnings just as those of a database that has the same ones
pub prefix_free-listed : (codes : List ℕ) (db : List Metadata) → ((code : ℕ) → is_in code codes ≡ is_listed code db) → trie.is_prefix_free codes ≡ is_prefix_free db
prefix_free-listed codes db same =
    all_alike (λ (c : ℕ). c) code_of (λ a. list_all (λ b. not (begins a b)) codes) codes db same
    ∙ all_same _ _ db (λ m. all_alike (λ (c : ℕ). c) code_of (λ b. not (begins (code_of m) b)) codes db same)
