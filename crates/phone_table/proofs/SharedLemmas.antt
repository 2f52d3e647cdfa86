-- The records that share a key, after one more.
use Rattle.std.proofs.Common.{◌≡◌, ℕ, ◌+◌, ◌<◌, ◌≤◌, Bool, true, false, cond, List, [], ◌∷◌, ◌++◌, length, take, drop, slice_range, zero, suc, ◌-◌, get_or, Option, None, Some, option_map, IfSome, String, Global, string_bytes, string_eq, refl, sym, ap, ap₂, subst, ◌∙◌, arith, bytes_eq}
use Rattle.std.proofs.lemmas.List.{append_assoc, append-nil, drop_at, length-take-le, length-map, map-append, take_at, take_more}
use Rattle.std.proofs.lemmas.List.Sums.{sum_by_push, count_by-le-length}
use Rattle.std.proofs.lemmas.Slice.Eq.{bytes_eq-Decides}
use Rattle.std.proofs.lemmas.Grind.{flat_map-append}
use Rattle.std.specs.List.{count_by, position_from}
use Rattle.std.specs.Option.{option_and_then, option_map_or, option_to_list}
use Rattle.csv.specs.Records.{field_at}
use Rattle.phone_csv.specs.Formats.{Record, record_text}
use Rattle.phone_csv.specs.RecordReports.{rows_text}
use Rattle.phone_csv.specs.declared.format.Format.{Format}
use Rattle.phone_table.specs.Answered.{Answered, has_key}
use Rattle.phone_table.specs.Duplicates.{marked_row, marked_rows, marks, shared_by}
use Rattle.phone_table.specs.Held.{answered, answered_of, found, found_after, found_at, one_more}
use Rattle.phone_table.specs.declared.duplicates.Held.{Held}
use Rattle.phone_table.specs.declared.duplicates.Shared.{Shared}

module _ {X : Type 0} (t : X → Bool) where
  -- the first place of a longer list
  abbrev or_last : Option ℕ → Bool → ℕ → Option ℕ
  or_last (Some n) b last = Some n
  or_last None b last = cond b (Some last) None

  position_push : (i : ℕ) (xs : List X) (x : X) → position_from t i (xs ++ x ∷ []) ≡ or_last (position_from t i xs) (t x) (i + length xs)
  position_push i [] x = ap (λ n. cond (t x) (Some n) None) (omega arith)
  position_push i (y ∷ xs) x = by (t y) refl (position_push (i + 1) xs x)
    where
      by : (b : Bool) → t y ≡ b → position_from t (i + 1) (xs ++ x ∷ []) ≡ or_last (position_from t (i + 1) xs) (t x) (i + 1 + length xs) →
          position_from t i ((y ∷ xs) ++ x ∷ []) ≡ or_last (position_from t i (y ∷ xs)) (t x) (i + length (y ∷ xs))
      by true e more = rw e refl
      by false e more = rw e (more ∙ ap (or_last (position_from t (i + 1) xs) (t x)) (omega arith))

  -- where none passes, none is counted
  none_counted : (i : ℕ) (xs : List X) → position_from t i xs ≡ None → count_by t xs ≡ 0
  none_counted i [] h = refl
  none_counted i (y ∷ xs) h = by (t y) refl (none_counted (i + 1) xs)
    where
      by : (b : Bool) → t y ≡ b → (position_from t (i + 1) xs ≡ None → count_by t xs ≡ 0) → count_by t (y ∷ xs) ≡ 0
      by true e more = absurd (cc (rw e at h))
      by false e more = rw e (more (rw e at h))

module _ (key : List ℕ) where
  abbrev has : Answered → Bool
  has = has_key key

  abbrev of_place : List Answered → ℕ → Shared
  of_place all number = record { first = number; count = count_by has all }

  -- those that share a key, after one more record
  pub shared_push : (all : List Answered) (a : Answered) → shared_by (all ++ a ∷ []) key ≡ cond (has a) (Some (one_more (shared_by all key) (2 + length all))) (shared_by all key)
  shared_push all a =
      ap (option_map (of_place (all ++ a ∷ []))) (position_push has 2 all a) ∙ by (position_from has 2 all) (has a) refl refl
    where
      counted : (b : Bool) → has a ≡ b → count_by has (all ++ a ∷ []) ≡ count_by has all + cond b 1 0
      counted b e = sum_by_push (λ x. cond (has x) 1 0) all a ∙ ap (λ c. count_by has all + cond c 1 0) e

      by : (o : Option ℕ) (b : Bool) → position_from has 2 all ≡ o → has a ≡ b →
          option_map (of_place (all ++ a ∷ [])) (or_last has o (has a) (2 + length all)) ≡ cond (has a) (Some (one_more (option_map (of_place all) (position_from has 2 all)) (2 + length all))) (option_map (of_place all) (position_from has 2 all))
      by (Some n) true o b = rw (o, b) (ap (λ c. let s : Shared = record { first = n; count = c } in Some s) (counted true b))
      by (Some n) false o b = rw (o, b) (ap (λ c. let s : Shared = record { first = n; count = c } in Some s) (counted false b ∙ omega arith))
      by None true o b = rw (o, b) (ap (λ c. let s : Shared = record { first = 2 + length all; count = c } in Some s) (counted true b ∙ ap (λ c. c + 1) (none_counted has 2 all o)))
      by None false o b = rw (o, b) refl

both_ways : (a b : Bool) → (a ≡ true → b ≡ true) → (b ≡ true → a ≡ true) → a ≡ b
both_ways true b f g = sym (f refl)
both_ways false true f g = g refl
both_ways false false f g = refl

same_text : (a b : List ℕ) → bytes_eq a b ≡ bytes_eq b a
same_text a b = both_ways (bytes_eq a b) (bytes_eq b a) (λ e. (bytes_eq-Decides b a).1 (sym ((bytes_eq-Decides a b).0 e))) (λ e. (bytes_eq-Decides a b).1 (sym ((bytes_eq-Decides b a).0 e)))

module _ (keys : List (String Global × Shared)) (all : List Answered) (number : ℕ) (counted : number ≡ 2 + length all)
    (before : (q : String Global) → found keys q ≡ shared_by all (string_bytes q)) where
  step : (key : Option (String Global)) (a : Answered) → a.key ≡ option_map string_bytes key → (q : String Global) →
      found_after keys key number q ≡ shared_by (all ++ a ∷ []) (string_bytes q)
  step None a e q = before q ∙ sym (shared_push (string_bytes q) all a
      ∙ ap (λ o. cond (option_map_or (bytes_eq (string_bytes q)) o false) (Some (one_more (shared_by all (string_bytes q)) (2 + length all))) (shared_by all (string_bytes q))) e)
  step (Some key) a e q = by (string_eq key q) refl ∙ sym (shared_push (string_bytes q) all a ∙ ap (λ b. cond b (Some new) (shared_by all (string_bytes q))) same)
    where
      new : Shared
      new = one_more (shared_by all (string_bytes q)) (2 + length all)

      same : has_key (string_bytes q) a ≡ string_eq key q
      same = ap (λ o. option_map_or (bytes_eq (string_bytes q)) o false) e ∙ same_text (string_bytes q) (string_bytes key)

      by : (b : Bool) → string_eq key q ≡ b → cond (string_eq key q) (Some (one_more (found keys key) number)) (found keys q) ≡ cond (string_eq key q) (Some new) (shared_by all (string_bytes q))
      by true h = rw h (ap₂ (λ s n. Some (one_more s n)) (before key ∙ ap (shared_by all) ((bytes_eq-Decides (string_bytes key) (string_bytes q)).0 h)) counted)
      by false h = rw h (before q)

-- a turn of the loop that counts the records with each key
pub shared_turn : (held : List Held) (h : Held) (k : ℕ) (keys new : List (String Global × Shared)) → k < length held → h ≡ get_or held k h →
    ((q : String Global) → found keys q ≡ shared_by (answered (take k held)) (string_bytes q)) →
    ((q : String Global) → found new q ≡ found_after keys h.key (k + 2) q) →
    (q : String Global) → found new q ≡ shared_by (answered (take (k + 1) held)) (string_bytes q)
shared_turn held h k keys new small at before after q =
    after q ∙ step keys (answered (take k held)) (k + 2) (omega (arith, length-map (take k held) answered_of, length-take-le k held (omega (arith, small)))) before h.key (answered_of h) refl q
    ∙ ap (λ xs. shared_by xs (string_bytes q)) (sym (map-append answered_of (take k held) (h ∷ [])) ∙ ap answered (ap (λ x. take k held ++ x ∷ []) at ∙ sym (take_more held k h small)))

-- so many at most share a key
pub shared_few : (all : List Answered) (key : List ℕ) → IfSome (shared_by all key) (λ s. s.count ≤ length all)
shared_few all key = by (position_from (has_key key) 2 all)
  where
    by : (o : Option ℕ) → IfSome (option_map (of_place key all) o) (λ s. s.count ≤ length all)
    by None = tt
    by (Some n) = count_by-le-length (has_key key) all

module _ (all : List Answered) where
  marked_push : (number : ℕ) (xs : List Answered) (x : Answered) → marked_rows all number (xs ++ x ∷ []) ≡ marked_rows all number xs ++ marked_row all (number + length xs) x ∷ []
  marked_push number [] x = ap (λ n. marked_row all n x ∷ []) (omega arith)
  marked_push number (y ∷ xs) x = ap (λ rows. marked_row all number y ∷ rows) (marked_push (number + 1) xs x ∙ ap (λ n. marked_rows all (number + 1) xs ++ marked_row all n x ∷ []) (omega arith))

found_shared : (keys : List (String Global × Shared)) (all : List Answered) → ((q : String Global) → found keys q ≡ shared_by all (string_bytes q)) →
    (key : Option (String Global)) → found_at keys key ≡ option_and_then (shared_by all) (option_map string_bytes key)
found_shared keys all are None = refl
found_shared keys all are (Some key) = are key

-- a turn of the loop that writes the rows
pub rows_turn : (format : Format) (held : List Held) (h : Held) (k : ℕ) (keys : List (String Global × Shared)) (old text new : List ℕ) → k < length held → h ≡ get_or held k h →
    ((q : String Global) → found keys q ≡ shared_by (answered held) (string_bytes q)) →
    text ≡ old ++ rows_text format (marked_rows (answered held) 2 (answered (take k held))) →
    new ≡ text ++ record_text format ((answered_of h).own ++ (marks (found_at keys h.key) (k + 2) ++ (answered_of h).answer)) →
    new ≡ old ++ rows_text format (marked_rows (answered held) 2 (answered (take (k + 1) held)))
rows_turn format held h k keys old text new small at are before after =
    let all = answered held in
    let rows = marked_rows all 2 (answered (take k held)) in
    let row = marked_row all (k + 2) (answered_of h) in
    let first : record_text format ((answered_of h).own ++ (marks (found_at keys h.key) (k + 2) ++ (answered_of h).answer)) ≡ record_text format row =
    ap (λ s. record_text format ((answered_of h).own ++ (marks s (k + 2) ++ (answered_of h).answer))) (found_shared keys all are h.key) in
    let place : 2 + length (answered (take k held)) ≡ k + 2 = omega (arith, length-map (take k held) answered_of, length-take-le k held (omega (arith, small))) in
    let more : marked_rows all 2 (answered (take (k + 1) held)) ≡ rows ++ row ∷ [] =
    ap (λ xs. marked_rows all 2 (answered xs)) (take_more held k h small ∙ ap (λ x. take k held ++ x ∷ []) (sym at))
    ∙ ap (marked_rows all 2) (map-append answered_of (take k held) (h ∷ [])) ∙ marked_push all 2 (answered (take k held)) (answered_of h)
    ∙ ap (λ n. rows ++ marked_row all n (answered_of h) ∷ []) place in
    after ∙ ap₂ (λ t r. t ++ r) before first ∙ append_assoc old (rows_text format rows) (record_text format row)
    ∙ ap (λ t. old ++ (rows_text format rows ++ t)) (sym (append-nil (record_text format row)))
    ∙ ap (λ t. old ++ t) (sym (flat_map-append (record_text format) rows (row ∷ []))) ∙ ap (λ r. old ++ rows_text format r) (sym more)

-- of a record so many are few
few_of : (o : Option Shared) (n k : ℕ) → n ≤ k → IfSome o (λ s. s.count ≤ n) → IfSome o (λ s. s.count + 1 < k + 2)
few_of None n k within few = tt
few_of (Some s) n k within few = omega (arith, within, few)

pub few_found : (keys : List (String Global × Shared)) (held : List Held) (k : ℕ) → k < length held →
    ((q : String Global) → found keys q ≡ shared_by (answered (take k held)) (string_bytes q)) →
    (key : Option (String Global)) → IfSome (found_at keys key) (λ s. s.count + 1 < k + 2)
few_found keys held k small are None = tt
few_found keys held k small are (Some key) =
    let within : length (answered (take k held)) ≤ k = omega (arith, length-map (take k held) answered_of, length-take-le k held (omega (arith, small))) in
    subst (λ o. IfSome o (λ s. s.count + 1 < k + 2)) (sym (are key)) (few_of (shared_by (answered (take k held)) (string_bytes key)) _ k within (shared_few (answered (take k held)) (string_bytes key)))

-- fields from a place on are the one there, if any, and those behind it
front_of : (k n : ℕ) (xs : Record) → take (suc k) (drop n xs) ≡ option_to_list (field_at xs n) ++ take k (drop (suc n) xs)
unfolding field_at
front_of zero zero [] = refl
front_of (suc k) zero [] = refl
front_of k zero (x ∷ xs) = refl
front_of zero (suc n) [] = refl
front_of (suc k) (suc n) [] = refl
front_of k (suc n) (x ∷ xs) = front_of k n xs

pub range_front : (xs : Record) (i end : ℕ) → i < end → slice_range xs i end ≡ option_to_list (field_at xs i) ++ slice_range xs (i + 1) end
range_front xs i end small =
    let k : ℕ = end - (i + 1) in
    let more : end - i ≡ suc k = omega (arith, small) in
    let next : suc i ≡ i + 1 = omega arith in
    ap (λ n. take n (drop i xs)) more ∙ front_of k i xs ∙ ap (λ n. option_to_list (field_at xs i) ++ take k (drop n xs)) next

pub range_end : (xs : Record) (i end : ℕ) → end ≤ i → slice_range xs i end ≡ []
range_end xs i end past = let none : end - i ≡ 0 = omega (arith, past) in ap (λ n. take n (drop i xs)) none

-- a row, cut where its own fields end
pub row_parts : (row own answer : Record) (width : ℕ) (key : Option (List ℕ)) → row ≡ own ++ answer → width ≡ length own →
    (let a : Answered = record { own = take width row; answer = drop width row; key = key } in a) ≡ (let a : Answered = record { own = own; answer = answer; key = key } in a)
row_parts row own answer width key e w = rw e (ap₂ (λ o b. let a : Answered = record { own = o; answer = b; key = key } in a) (take_at own answer width (sym w)) (drop_at own answer width (sym w)))
