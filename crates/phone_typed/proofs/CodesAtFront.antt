-- Whatever digits follow a calling code, it is found at their front.
use Rattle.std.proofs.Common.{◌≡◌, ◌⊎◌, inl, inr, ℕ, suc, zero, ◌<◌, ◌≤◌, ◌&&◌, ◌^◌, nat_le, Bool, true, false, if◌then◌else◌, cond, List, ◌++◌, length, take, codes, Option, Some, None, leb-true, refl, ap, ap₂, sym, subst, ◌∙◌, arith, length-append}
use Rattle.std.proofs.Math.Seq.{take-append_seam}
use Rattle.std.proofs.lemmas.Bool.{and_from, and_parts, le-leb}
use Rattle.std.proofs.lemmas.Fmt.{decimal_nonempty, digits_decimal, digits_value-decimal, length-decimal-le}
use Rattle.std.proofs.lemmas.List.{length-take, take-append-le}
use Rattle.std.proofs.lemmas.Str.Parse.{IsNumeralModel, digits_value_short, numerals_by_value, tells_all_ascii_digits}
use Rattle.std.specs.Fmt.{decimal}
use Rattle.std.specs.Option.{option_or}
use Rattle.std.specs.Str.{all_ascii_digits, bytes_eq}
use Rattle.std.specs.Str.Parse.{digits_value}
use Rattle.phone_plans.specs.CodeLookUps.{front_number, is_listed, listed_front, listed_if_some, shortest}
use Rattle.phone_read.proofs.ListedFronts.{shortest-listed}
use Rattle.phone_records.specs.declared.loader.Metadata.{Metadata}

own : IsNumeralModel (λ ds. all_ascii_digits ds ≡ true) (digits_value 10)
own = numerals_by_value _ tells_all_ascii_digits

-- a number that three bytes at most write has three digits at most
small_front : (k : ℕ) (text : List ℕ) (code : ℕ) → k ≤ 3 → front_number k text ≡ Some code → code < 1000
small_front k text code few e = at (nat_le k (length text) && all_ascii_digits (take k text)) refl e
  where
    at : (b : Bool) → (nat_le k (length text) && all_ascii_digits (take k text)) ≡ b → cond b (Some (digits_value 10 (take k text))) None ≡ Some code → code < 1000
    at false h e = absurd (cc)
    at true h e =
        let both = and_parts (nat_le k (length text)) (all_ascii_digits (take k text)) h in
        let long : k ≤ length text = leb-true k (length text) both.0 in
        let short : length (take k text) ≤ 3 = omega (arith, length-take k text, long, few) in
        let same : digits_value 10 (take k text) ≡ code = cc in
        subst (λ v. v < 1000) same (digits_value_short own (take k text) 3 both.1 short)

from_listed : (db : List Metadata) (o : Option ℕ) (code : ℕ) → listed_if_some o db ≡ Some code → o ≡ Some code
from_listed db None code e = cc
from_listed db (Some n) code e = at (is_listed n db) e
  where
    at : (b : Bool) → (if b then Some n else None) ≡ Some code → Some n ≡ Some code
    at true f = f
    at false f = cc

small_listed : (db : List Metadata) (k : ℕ) (text : List ℕ) (code : ℕ) → k ≤ 3 → listed_front db text k ≡ Some code → code < 1000
small_listed db k text code few e = small_front k text code few (from_listed db (front_number k text) code e)

small_shortest : (db : List Metadata) (text : List ℕ) (code : ℕ) → shortest db text ≡ Some code → code < 1000
small_shortest db text code e = at (bytes_eq (take 1 text) (codes "0")) e
  where
    any : (a b c : Option ℕ) → a ≡ listed_front db text 1 → b ≡ listed_front db text 2 → c ≡ listed_front db text 3 →
        option_or a (option_or b (option_or c None)) ≡ Some code → code < 1000
    any (Some x) b c ea eb ec f = small_listed db 1 text code (omega arith) (sym ea ∙ f)
    any None (Some x) c ea eb ec f = small_listed db 2 text code (omega arith) (sym eb ∙ f)
    any None None (Some x) ea eb ec f = small_listed db 3 text code (omega arith) (sym ec ∙ f)
    any None None None ea eb ec f = absurd (cc)

    at : (b : Bool) → (if b then None else option_or (listed_front db text 1) (option_or (listed_front db text 2) (option_or (listed_front db text 3) None))) ≡ Some code → code < 1000
    at true f = absurd (cc)
    at false f = any (listed_front db text 1) (listed_front db text 2) (listed_front db text 3) refl refl refl f

module _ (db : List Metadata) (code : ℕ) (small : code < 1000) (listed : is_listed code db ≡ true) where
  abbrev digits : List ℕ
  digits = decimal code

  fits : code < 2 ^ 64
  fits = omega (arith, small)

  -- the code itself is found
  found : (rest : List ℕ) → listed_front db (digits ++ rest) (length digits) ≡ Some code
  found rest =
      let long : length digits ≤ length (digits ++ rest) = omega (arith, length-append digits rest) in
      ap (λ t. listed_if_some (if nat_le (length digits) (length (digits ++ rest)) && all_ascii_digits t then Some (digits_value 10 t) else None) db) (take-append_seam digits rest)
      ∙ ap (λ b. listed_if_some (if b then Some (digits_value 10 digits) else None) db)
      (and_from _ _ (le-leb (length digits) (length (digits ++ rest)) long) (digits_decimal own code fits))
      ∙ ap (λ v. if is_listed v db then Some v else None) (digits_value-decimal own code fits)
      ∙ ap (λ b. if b then Some code else None) listed

  -- fronts of its digits are the same
  same_front : (k : ℕ) (a b : List ℕ) → k ≤ length digits → listed_front db (digits ++ a) k ≡ listed_front db (digits ++ b) k
  same_front k a b le =
      let la = le-leb k (length (digits ++ a)) (omega (arith, le, length-append digits a)) in
      let lb = le-leb k (length (digits ++ b)) (omega (arith, le, length-append digits b)) in
      ap₂ (λ x t. listed_if_some (if x && all_ascii_digits t then Some (digits_value 10 t) else None) db) (la ∙ sym lb)
      (take-append-le k digits a le ∙ sym (take-append-le k digits b le))

  abbrev any : List ℕ → Option ℕ
  any rest = option_or (listed_front db (digits ++ rest) 1) (option_or (listed_front db (digits ++ rest) 2) (option_or (listed_front db (digits ++ rest) 3) None))

  any_same : (a b : List ℕ) → (length digits ≡ 1) ⊎ ((length digits ≡ 2) ⊎ (length digits ≡ 3)) → any a ≡ any b
  any_same a b (inl one) =
      let at : (rest : List ℕ) → listed_front db (digits ++ rest) 1 ≡ Some code = λ rest. subst (λ k. listed_front db (digits ++ rest) k ≡ Some code) one (found rest) in
      let by : (rest : List ℕ) → any rest ≡ Some code =
      λ rest. ap (λ o. option_or o (option_or (listed_front db (digits ++ rest) 2) (option_or (listed_front db (digits ++ rest) 3) None))) (at rest) in
      by a ∙ sym (by b)
  any_same a b (inr (inl two)) =
      let at : (rest : List ℕ) → listed_front db (digits ++ rest) 2 ≡ Some code = λ rest. subst (λ k. listed_front db (digits ++ rest) k ≡ Some code) two (found rest) in
      let by : (rest : List ℕ) → any rest ≡ option_or (listed_front db (digits ++ rest) 1) (Some code) =
      λ rest. ap (λ o. option_or (listed_front db (digits ++ rest) 1) (option_or o (option_or (listed_front db (digits ++ rest) 3) None))) (at rest) in
      by a ∙ ap (λ o. option_or o (Some code)) (same_front 1 a b (omega (arith, two))) ∙ sym (by b)
  any_same a b (inr (inr three)) =
      ap₂ (λ x y. option_or x (option_or y (option_or (listed_front db (digits ++ a) 3) None))) (same_front 1 a b (omega (arith, three))) (same_front 2 a b (omega (arith, three)))
      ∙ ap (λ o. option_or (listed_front db (digits ++ b) 1) (option_or (listed_front db (digits ++ b) 2) (option_or o None))) (same_front 3 a b (omega (arith, three)))

  counts : (k : ℕ) → length digits ≡ k → 0 < k → k ≤ 3 → (length digits ≡ 1) ⊎ ((length digits ≡ 2) ⊎ (length digits ≡ 3))
  counts zero e some few = absurd (omega (arith, some))
  counts (suc zero) e some few = inl e
  counts (suc (suc zero)) e some few = inr (inl e)
  counts (suc (suc (suc zero))) e some few = inr (inr e)
  counts (suc (suc (suc (suc k)))) e some few = absurd (omega (arith, few))

  pub found_same : (a b : List ℕ) → shortest db (digits ++ a) ≡ shortest db (digits ++ b)
  found_same a b =
      let some : 0 < length digits = decimal_nonempty code fits in
      let few : length digits ≤ 3 = length-decimal-le 3 code (omega arith) (omega (arith, small)) fits in
      let front : take 1 (digits ++ a) ≡ take 1 (digits ++ b) =
      take-append-le 1 digits a (omega (arith, some)) ∙ sym (take-append-le 1 digits b (omega (arith, some))) in
      ap₂ (λ t o. if bytes_eq t (codes "0") then None else o) front (any_same a b (counts (length digits) refl some few))

-- a code that was found is found before other digits too
pub shortest-stays : (db : List Metadata) (code : ℕ) (a b : List ℕ) → shortest db (decimal code ++ a) ≡ Some code → shortest db (decimal code ++ b) ≡ Some code
shortest-stays db code a b e =
    sym (found_same db code (small_shortest db (decimal code ++ a) code e) (shortest-listed db (decimal code ++ a) code e) a b) ∙ e
