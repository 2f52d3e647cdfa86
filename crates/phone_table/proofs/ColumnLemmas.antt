-- The column of a name, by the fields in front of it; and what is left of fields at a place.
use Rattle.std.proofs.Common.{◌≡◌, ◌≢◌, ◌≤◌, Bool, ℕ, zero, suc, ◌<◌, ◌+◌, List, [], ◌∷◌, drop, length, Some, None, true, false, refl, sym, ap, add-one, cond, ◌∙◌, arith}
use Rattle.std.specs.List.{find}
use Rattle.std.specs.Str.{bytes_eq}
use Rattle.std.proofs.lemmas.Slice.Eq.{bytes_eq-Decides}
use Rattle.std.proofs.lemmas.Option.{same_Some}
use Rattle.csv.specs.Records.{field_at}
use Rattle.phone_csv.specs.Formats.{Record}
use Rattle.phone_table.specs.Headers.{column_of, one_if, times}
use Rattle.phone_table.specs.Regions.{field_in}

-- a field that is the name, behind others that aren't, is its column
pub column_of-found : (fields : Record) (name : List ℕ) (i : ℕ) → ((j : ℕ) → j < i → field_at fields j ≢ Some name) → field_at fields i ≡ Some name →
    column_of fields name ≡ Some i
unfolding field_at
column_of-found [] name i before e = cc e
column_of-found (f ∷ fields) name zero before e = rw ((bytes_eq-Decides f name).1 (same_Some f name e)) refl
column_of-found (f ∷ fields) name (suc i) before e = by (bytes_eq f name) refl
    (column_of-found fields name i (λ j l. before (suc j) (omega (arith, l))) e)
  where
    by : (b : Bool) → bytes_eq f name ≡ b → column_of fields name ≡ Some i → column_of (f ∷ fields) name ≡ Some (suc i)
    by true h more = absurd (before 0 (omega arith) (ap Some ((bytes_eq-Decides f name).0 h)))
    by false h more = rw (h, more) (ap Some (omega arith))

-- where none is the name, there is no column
pub column_of-none : (fields : Record) (name : List ℕ) → ((j : ℕ) → j < length fields → field_at fields j ≢ Some name) → column_of fields name ≡ None
unfolding field_at
column_of-none [] name before = refl
column_of-none (f ∷ fields) name before = by (bytes_eq f name) refl (column_of-none fields name (λ j l. before (suc j) (omega (arith, l))))
  where
    by : (b : Bool) → bytes_eq f name ≡ b → column_of fields name ≡ None → column_of (f ∷ fields) name ≡ None
    by true h more = absurd (before 0 (omega arith) (ap Some ((bytes_eq-Decides f name).0 h)))
    by false h more = rw (h, more) refl

-- what is left of fields at a place is the field there, and what is left behind it
drop-at : (fields : Record) (i : ℕ) → i < length fields → drop i fields ≡ field_in fields i ∷ drop (suc i) fields
unfolding field_at
drop-at [] i l = absurd (omega (arith, l))
drop-at (f ∷ fields) zero l = refl
drop-at (f ∷ fields) (suc i) l = drop-at fields i (omega (arith, l))

pub drop-field : (fields : Record) (i : ℕ) → i < length fields → drop i fields ≡ field_in fields i ∷ drop (i + 1) fields
drop-field fields i l = drop-at fields i l ∙ ap (λ n. field_in fields i ∷ drop n fields) (sym (add-one i))

pub one_if-small : (b : Bool) → one_if b ≤ 1
one_if-small true = omega arith
one_if-small false = omega arith

-- one more field, counted
pub times-field : (fields : Record) (name : List ℕ) (i : ℕ) → i < length fields →
    times (drop i fields) name ≡ one_if (bytes_eq (field_in fields i) name) + times (drop (i + 1) fields) name
times-field fields name i l = ap (λ (fs : Record). times fs name) (drop-field fields i l)

-- one more field, found or passed
pub find-field : (p : List ℕ → Bool) (fields : Record) (i : ℕ) → i < length fields → p (field_in fields i) ≡ true →
    find p (drop i fields) ≡ Some (field_in fields i)
find-field p fields i l e = ap (λ (fs : Record). find p fs) (drop-field fields i l) ∙ ap (λ b. cond b (Some (field_in fields i)) (find p (drop (i + 1) fields))) e

pub find-past : (p : List ℕ → Bool) (fields : Record) (i : ℕ) → i < length fields → p (field_in fields i) ≡ false →
    find p (drop i fields) ≡ find p (drop (i + 1) fields)
find-past p fields i l e = ap (λ (fs : Record). find p fs) (drop-field fields i l) ∙ ap (λ b. cond b (Some (field_in fields i)) (find p (drop (i + 1) fields))) e
