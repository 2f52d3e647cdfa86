-- A listed code: at the front of a text, and as the number of a prefix.
use Rattle.std.proofs.Common.{◌≡◌, ◌⊎◌, inl, inr, ℕ, zero, suc, ◌+◌, ◌<◌, ◌≤◌, ◌&&◌, ◌||◌, Bool, true, false, not, nat_le, nat_lt, if◌then◌else◌, cond, List, [], ◌∷◌, ◌++◌, length, take, drop, filter, reverse, get_or, codes, Option, Some, None, Result, Ok, Err, refl, ap, sym, subst, ◌∙◌, arith, lt-ltb, leb-true, true≢false, length-append}
use Rattle.std.proofs.lemmas.Bool.{and_parts, cond-true, cond-false, false_from_ne_true}
use Rattle.std.proofs.lemmas.Fmt.{decimal-digits_value}
use Rattle.std.proofs.lemmas.List.{length-take, length-reverse, take-append-drop}
use Rattle.std.proofs.lemmas.Slice.Eq.{bytes_eq-Decides}
use Rattle.std.proofs.lemmas.Str.Parse.{IsNumeralModel, digits_value_short, numerals_by_value, tells_all_ascii_digits}
use Rattle.std.specs.Fmt.{decimal}
use Rattle.std.specs.List.{list_any}
use Rattle.std.specs.Option.{option_or, option_map_or}
use Rattle.std.specs.Str.{all_ascii_digits, bytes_eq}
use Rattle.std.specs.Str.Parse.{digits_value}
use Rattle.phone_values.specs.Numbers.{number_in}
use Rattle.phone_values.specs.declared.country.Source.TheVariants.{Plus}
use Rattle.phone_values.specs.declared.error.ParseError.{ParseError}
use Rattle.phone_values.specs.declared.error.ParseError.TheVariants.{InvalidCountryCode, MalformedInteger}
use Rattle.phone_plans.specs.CodeLookUps.{first_of, front_number, is_listed, is_main_of, is_other_of, listed_front, listed_if_some, shortest, territories}
use Rattle.phone_plans.specs.Records.{has_code}
use Rattle.phone_records.specs.declared.loader.Metadata.{Metadata}
use Rattle.phone_read.specs.CallingCodes.{code_by_prefix, with_three}
use Rattle.phone_read.specs.Hints.{Coded}

own : IsNumeralModel (λ ds. all_ascii_digits ds ≡ true) (digits_value 10)
own = numerals_by_value _ tells_all_ascii_digits

first_of_take : (k : ℕ) (xs : List ℕ) → 0 < k → get_or (take k xs) 0 0 ≡ get_or xs 0 0
first_of_take zero xs some = absurd (omega (arith, some))
first_of_take (suc k) [] some = refl
first_of_take (suc k) (x ∷ xs) some = refl

-- a text whose first byte is not `0`
no_zero : (xs : List ℕ) → bytes_eq (take 1 xs) (codes "0") ≡ false → ¬ (get_or xs 0 0 ≡ 48)
no_zero [] h e = absurd (omega (arith, e))
no_zero (x ∷ xs) h e = true≢false (sym ((bytes_eq-Decides (x ∷ []) (codes "0")).1 (ap (λ y. y ∷ []) e)) ∙ h)

from_either : (a b : Option ℕ) (x : ℕ) → option_or a b ≡ Some x → (a ≡ Some x) ⊎ (b ≡ Some x)
from_either None b x e = inr e
from_either (Some y) b x e = inl e

from_listed : (db : List Metadata) (o : Option ℕ) (code : ℕ) → listed_if_some o db ≡ Some code → o ≡ Some code
from_listed db None code e = cc
from_listed db (Some n) code e = at (is_listed n db) e
  where
    at : (b : Bool) → (if b then Some n else None) ≡ Some code → Some n ≡ Some code
    at true f = f
    at false f = cc

if_some : (b : Bool) (v code : ℕ) → (if b then Some v else None) ≡ Some code → (b ≡ true) × (v ≡ code)
if_some true v code e = (refl, cc)
if_some false v code e = cc

-- a number of at most three digits at the front, the first of which is not `0`, is written there in decimal
written : (text : List ℕ) (code k : ℕ) → 0 < k → k ≤ 3 → bytes_eq (take 1 text) (codes "0") ≡ false → front_number k text ≡ Some code →
    (rest : List ℕ) × (text ≡ decimal code ++ rest)
written text code k some few first e =
    let ds = take k text in
    let found = if_some (nat_le k (length text) && all_ascii_digits ds) (digits_value 10 ds) code e in
    let both = and_parts (nat_le k (length text)) (all_ascii_digits ds) found.0 in
    let long : k ≤ length text = leb-true k (length text) both.0 in
    let count : length ds ≡ k = omega (arith, length-take k text, long) in
    let short : length ds ≤ 3 = omega (arith, count, few) in
    let small : digits_value 10 ds < 1000 = digits_value_short own ds 3 both.1 short in
    let one : get_or ds 0 0 ≡ 48 → length ds ≡ 1 = λ z. absurd (no_zero text first (sym (first_of_take k text some) ∙ z)) in
    let same : decimal (digits_value 10 ds) ≡ ds = decimal-digits_value own ds both.1 (omega (arith, count, some)) one (omega (arith, small)) in
    (drop k text, sym (take-append-drop k text) ∙ ap (λ t. t ++ drop k text) (sym same ∙ ap decimal found.1))

-- a front of one to three digits that is a listed code, where the text does not begin with `0`
record IsListedFront (db : List Metadata) (text : List ℕ) (code : ℕ) : Type 0 where
  k : ℕ
  some : 0 < k
  few : k ≤ 3
  first : bytes_eq (take 1 text) (codes "0") ≡ false
  found : listed_front db text k ≡ Some code

-- the shortest listed front is such a front
shortest_is : (db : List Metadata) (text : List ℕ) (code : ℕ) → shortest db text ≡ Some code → IsListedFront db text code
shortest_is db text code e = at (bytes_eq (take 1 text) (codes "0")) refl e
  where
    any : bytes_eq (take 1 text) (codes "0") ≡ false → (a b c : Option ℕ) → a ≡ listed_front db text 1 → b ≡ listed_front db text 2 → c ≡ listed_front db text 3 →
        option_or a (option_or b (option_or c None)) ≡ Some code → IsListedFront db text code
    any first (Some x) b c ea eb ec f = record { k = 1; some = omega arith; few = omega arith; first = first; found = sym ea ∙ f }
    any first None (Some x) c ea eb ec f = record { k = 2; some = omega arith; few = omega arith; first = first; found = sym eb ∙ f }
    any first None None (Some x) ea eb ec f = record { k = 3; some = omega arith; few = omega arith; first = first; found = sym ec ∙ f }
    any first None None None ea eb ec f = cc

    at : (b : Bool) → bytes_eq (take 1 text) (codes "0") ≡ b →
        (if b then None else option_or (listed_front db text 1) (option_or (listed_front db text 2) (option_or (listed_front db text 3) None))) ≡ Some code →
        IsListedFront db text code
    at true first f = cc
    at false first f = any first (listed_front db text 1) (listed_front db text 2) (listed_front db text 3) refl refl refl f

-- the shortest listed code at the front of a text stands there in decimal
pub shortest-front : (db : List Metadata) (text : List ℕ) (code : ℕ) → shortest db text ≡ Some code → (rest : List ℕ) × (text ≡ decimal code ++ rest)
shortest-front db text code e =
    let h = shortest_is db text code e in
    written text code h.k h.some h.few h.first (from_listed db (front_number h.k text) code h.found)

listed_only : (db : List Metadata) (o : Option ℕ) (code : ℕ) → listed_if_some o db ≡ Some code → is_listed code db ≡ true
listed_only db None code e = cc
listed_only db (Some n) code e = at (is_listed n db) refl e
  where
    at : (b : Bool) → is_listed n db ≡ b → (if b then Some n else None) ≡ Some code → is_listed code db ≡ true
    at true f g = let same : n ≡ code = cc in subst (λ c. is_listed c db ≡ true) same f
    at false f g = cc

-- and is listed
pub shortest-listed : (db : List Metadata) (text : List ℕ) (code : ℕ) → shortest db text ≡ Some code → is_listed code db ≡ true
shortest-listed db text code e = let h = shortest_is db text code e in listed_only db (front_number h.k text) code h.found

-- a code is listed where it has territories, main or others
listed_count : (code : ℕ) (db : List Metadata) → is_listed code db ≡ nat_lt 0 (length (filter (is_main_of code) db) + length (filter (is_other_of code) db))
listed_count code [] = refl
listed_count code (m ∷ ms) = at (has_code code m) m.main_country_for_code (listed_count code ms)
  where
    at : (h k : Bool) → list_any (has_code code) ms ≡ nat_lt 0 (length (filter (is_main_of code) ms) + length (filter (is_other_of code) ms)) →
        (h || list_any (has_code code) ms)
        ≡ nat_lt 0 (length (cond (h && k) (m ∷ filter (is_main_of code) ms) (filter (is_main_of code) ms)) + length (cond (h && not k) (m ∷ filter (is_other_of code) ms) (filter (is_other_of code) ms)))
    at true true e = sym (lt-ltb 0 _ (omega arith))
    at true false e = sym (lt-ltb 0 _ (omega arith))
    at false k e = e

count_of : (code : ℕ) (db : List Metadata) → length (territories code db) ≡ length (filter (is_main_of code) db) + length (filter (is_other_of code) db)
count_of code db =
    length-append (reverse (filter (is_main_of code) db)) (filter (is_other_of code) db)
    ∙ ap (λ n. n + length (filter (is_other_of code) db)) (length-reverse (filter (is_main_of code) db))

counted : (code : ℕ) (db : List Metadata) → is_listed code db ≡ nat_lt 0 (length (territories code db))
counted code db = listed_count code db ∙ ap (nat_lt 0) (sym (count_of code db))

pub listed_some : (code : ℕ) (db : List Metadata) (m : Metadata) → Some m ≡ first_of (territories code db) → is_listed code db ≡ true
listed_some code db m e = counted code db ∙ at (territories code db) e
  where
    at : (ms : List Metadata) → Some m ≡ first_of ms → nat_lt 0 (length ms) ≡ true
    at [] f = cc
    at (x ∷ xs) f = lt-ltb 0 (length (x ∷ xs)) (omega arith)

pub listed_none : (code : ℕ) (db : List Metadata) → None ≡ first_of (territories code db) → is_listed code db ≡ false
listed_none code db e = counted code db ∙ at (territories code db) e
  where
    at : (ms : List Metadata) → None ≡ first_of ms → nat_lt 0 (length ms) ≡ false
    at [] f = refl
    at (x ∷ xs) f = cc

-- the code by the number of a prefix
abbrev by_number : List Metadata → List ℕ → Option ℕ → Result Coded ParseError
by_number db digits o =
    option_map_or (λ code. if is_listed code db then Ok (record { source = Plus; value = code; rest = digits }) else Err InvalidCountryCode) o (Err MalformedInteger)

pub prefix_malformed : (db : List Metadata) (prefix digits : List ℕ) → number_in 16 prefix ≡ None → code_by_prefix db prefix digits ≡ Err MalformedInteger
prefix_malformed db prefix digits e = ap (by_number db digits) e

pub prefix_listed : (db : List Metadata) (prefix digits : List ℕ) (code : ℕ) → number_in 16 prefix ≡ Some code → is_listed code db ≡ true →
    code_by_prefix db prefix digits ≡ Ok (record { source = Plus; value = code; rest = digits })
prefix_listed db prefix digits code e l = ap (by_number db digits) e ∙ cond-true _ _ _ l

pub prefix_unlisted : (db : List Metadata) (prefix digits : List ℕ) (code : ℕ) → number_in 16 prefix ≡ Some code → is_listed code db ≡ false →
    code_by_prefix db prefix digits ≡ Err InvalidCountryCode
prefix_unlisted db prefix digits code e l = ap (by_number db digits) e ∙ cond-false _ _ _ l

-- more than two digits are enough to look for a code
pub more_than_two : (digits : List ℕ) (r : Result Coded ParseError) → 2 < length digits → with_three digits r ≡ r
more_than_two digits r more = cond-false _ _ _ (false_from_ne_true _ (λ t. let few : length digits ≤ 2 = leb-true (length digits) 2 t in absurd (omega (arith, few, more))))
