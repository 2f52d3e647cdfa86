-- One buffer more.
use Rattle.std.proofs.Common.{◌≡◌, ℕ, ◌+◌, ◌<◌, get_or, subst, take, List, [], ◌∷◌, ◌++◌, length, sym, ap, ◌∙◌, arith, length-append, append_assoc, append-nil}
use Rattle.std.proofs.lemmas.List.{take_more}
use Rattle.std.proofs.lemmas.List.Concat.{flat_map-append}
use Rattle.std.specs.List.{flat_map}
use Rattle.phone_arrow.specs.Buffers.{padded, padding}
use Rattle.phone_c_base.specs.declared.found.Place.{Place}
use Rattle.phone_columns.specs.Bodies.{HasBuffers, all_buffers, places_from}
use Rattle.phone_columns.specs.Columns.{buffers_of}
use Rattle.phone_columns.specs.declared.answers.Answer.{Answer}
use Rattle.phone_columns.specs.declared.column.Column.{Column}
use Rattle.phone_values.specs.declared.rules.Rules.{Rules}
use Rattle.phone_records.specs.declared.loader.Metadata.{Metadata}
use Rattle.phone_columns.specs.declared.body.Body.{Body}

abbrev span : (start end : ℕ) → Place
span start end = record { start = start; end = end }

span_same : (a b i j : ℕ) → a ≡ i → b ≡ j → span a b ≡ span i j
span_same a b i j p q = ap (λ (n : ℕ). span n b) p ∙ ap (λ (n : ℕ). span i n) q

-- a place of so many bytes
abbrev place : (start len : ℕ) → Place
place start len = span start (start + len)

places_more : (k : ℕ) (bs : List (List ℕ)) (b : List ℕ) →
    places_from k (bs ++ b ∷ []) ≡ places_from k bs ++ place (k + length (flat_map padded bs)) (length b) ∷ []
places_more k [] b =
    let e : k ≡ k + 0 = omega arith in
    ap (λ (n : ℕ). place n (length b) ∷ []) e
places_more k (c ∷ bs) b =
    let len : length (padded c ++ flat_map padded bs) ≡ length (padded c) + length (flat_map padded bs) = length-append (padded c) (flat_map padded bs) in
    let e : (k + length (padded c)) + length (flat_map padded bs) ≡ k + length (padded c ++ flat_map padded bs) = omega (arith, len) in
    ap (λ (ps : List Place). place k (length c) ∷ ps) (places_more (k + length (padded c)) bs b) ∙
    ap (λ (n : ℕ). place k (length c) ∷ (places_from (k + length (padded c)) bs ++ place n (length b) ∷ [])) e

pub has_more : (buffers : List (List ℕ)) (b : List ℕ) (old new : Body) → HasBuffers buffers old →
    new.bytes.items ≡ (old.bytes.items ++ b) ++ padding (length b) →
    new.places.items ≡ old.places.items ++ record { start = length old.bytes.items; end = length (old.bytes.items ++ b) } ∷ [] →
    HasBuffers (buffers ++ b ∷ []) new
has_more buffers b old new has bytes places =
    let before = flat_map padded buffers in
    let all : flat_map padded (buffers ++ b ∷ []) ≡ before ++ (padded b ++ []) = flat_map-append padded buffers (b ∷ []) in
    let len : length (old.bytes.items ++ b) ≡ length old.bytes.items + length b = length-append old.bytes.items b in
    let at : length old.bytes.items ≡ length before = ap length has.bytes in
    let zero_at : length before ≡ 0 + length before = omega arith in
    let ending : length (old.bytes.items ++ b) ≡ (0 + length before) + length b = omega (arith, len, at) in
    record {
      bytes = bytes ∙ append_assoc old.bytes.items b (padding (length b)) ∙ ap (λ (xs : List ℕ). xs ++ padded b) has.bytes ∙
          ap (λ (xs : List ℕ). before ++ xs) (sym (append-nil (padded b))) ∙ sym all;
      places = places ∙ ap (λ (ps : List Place). ps ++ span (length old.bytes.items) (length (old.bytes.items ++ b)) ∷ []) has.places ∙
          ap (λ (p : Place). places_from 0 buffers ++ p ∷ []) (span_same (length old.bytes.items) (length (old.bytes.items ++ b)) (0 + length before) ((0 + length before) + length b) (at ∙ zero_at) ending) ∙
          sym (places_more 0 buffers b);
    }

-- two buffers more
pub then_two : (buffers : List (List ℕ)) (a b : List ℕ) (body : Body) → HasBuffers ((buffers ++ a ∷ []) ++ b ∷ []) body →
    HasBuffers (buffers ++ a ∷ b ∷ []) body
then_two buffers a b body has = rw append_assoc at has

-- the buffers of one column more
pub buffers_more : (rules : Rules) (db : List Metadata) (answers : List Answer) (columns : List Column) (i : ℕ) (x : Column) (body : Body) →
    i < length columns → x ≡ get_or columns i x →
    HasBuffers (all_buffers rules db (take i columns) answers ++ buffers_of rules db x answers) body →
    HasBuffers (all_buffers rules db (take (i + 1) columns) answers) body
buffers_more rules db answers columns i x body h at has =
    let before = take i columns in
    let f = λ (c : Column). buffers_of rules db c answers in
    let some : take (i + 1) columns ≡ before ++ x ∷ [] = take_more columns i x h ∙ ap (λ (y : Column). before ++ y ∷ []) (sym at) in
    let all : flat_map f (before ++ x ∷ []) ≡ flat_map f before ++ (f x ++ []) = flat_map-append f before (x ∷ []) in
    let same : flat_map f before ++ f x ≡ flat_map f (take (i + 1) columns) =
    ap (λ (bs : List (List ℕ)). flat_map f before ++ bs) (sym (append-nil (f x))) ∙ sym all ∙ ap (λ (cs : List Column). flat_map f cs) (sym some) in
    subst (λ (bs : List (List ℕ)). HasBuffers bs body) same has
