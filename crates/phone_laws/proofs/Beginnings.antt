-- The groups of a text are beginnings of its digits.
use Rattle.std.proofs.Common.{◌≡◌, ℕ, ◌+◌, ◌==◌, not, Bool, true, false, if◌then◌else◌, List, [], ◌∷◌, ◌++◌, length, chars, filter, Option, None, Some, append_assoc, refl, ap, sym, ◌∙◌}
use Rattle.std.proofs.lemmas.List.{length-append}
use Rattle.std.specs.Option.{option_map_or}
use Rattle.phone_chars.specs.Characters.{is_digit}
use Rattle.phone_chars.specs.Cuts.{after_front, front}
use Rattle.phone_values.specs.Numbers.{text_of}
use Rattle.phone_values.specs.declared.reading.Reading.{Reading}
use Rattle.phone_library.specs.Facts.{kind_of_number}
use Rattle.phone_plans.specs.CodeLookUps.{first_of, territories}
use Rattle.phone_records.specs.declared.loader.Metadata.{Metadata}
use Rattle.phone_questions.specs.Belonging.{own_territory}
use Rattle.phone_questions.specs.Groups.{after_group, area_length, destination_length, first_group, has_area, has_token, is_between, laid_abroad, length_in_groups, second_group}
use Rattle.phone_laws.specs.AreaCodes.{IsBeginning, KeepsDigits, destination_digits}

module _ (p : ℕ → Bool) where
  -- what isn't in a set, in front, isn't kept of the set
  skipped_by : (here : Bool) (c : ℕ) (cs : List ℕ) → filter p cs ≡ filter p (after_front (λ d. not (p d)) cs) → p c ≡ here →
      (if here then c ∷ filter p cs else filter p cs) ≡ filter p (if not here then after_front (λ d. not (p d)) cs else c ∷ cs)
  skipped_by true c cs h e = sym (ap (λ b. if b then c ∷ filter p cs else filter p cs) e)
  skipped_by false c cs h e = h

  skipped : (t : List ℕ) → filter p t ≡ filter p (after_front (λ d. not (p d)) t)
  skipped [] = refl
  skipped (c ∷ cs) = skipped_by (p c) c cs (skipped cs) refl

  taken_by : (here : Bool) (c : ℕ) (cs : List ℕ) → filter p cs ≡ front p cs ++ filter p (after_front p cs) → p c ≡ here →
      (if here then c ∷ filter p cs else filter p cs)
      ≡ (if here then c ∷ front p cs else []) ++ filter p (if here then after_front p cs else c ∷ cs)
  taken_by true c cs h e = ap (λ t. c ∷ t) h
  taken_by false c cs h e = sym (ap (λ b. if b then c ∷ filter p cs else filter p cs) e)

  -- a front of a set, and what is kept of the rest
  taken : (t : List ℕ) → filter p t ≡ front p t ++ filter p (after_front p t)
  taken [] = refl
  taken (c ∷ cs) = taken_by (p c) c cs (taken cs) refl

-- the first group begins the digits
grouped : (t : List ℕ) → filter is_digit t ≡ first_group t ++ filter is_digit (after_group t)
grouped t = skipped is_digit t ∙ taken is_digit (after_front is_between t)

both : (t : List ℕ) → filter is_digit t ≡ (first_group t ++ second_group t) ++ filter is_digit (after_group (after_group t))
both t = grouped t ∙ ap (λ r. first_group t ++ r) (grouped (after_group t)) ∙ sym (append_assoc (first_group t) (second_group t) _)

-- so do the digits of the destination code
IsFront : List ℕ → ℕ → List ℕ → Type 0
IsFront digits count front = (rest : List ℕ) × (digits ≡ front ++ rest) × (length front ≡ count)

digits_by : (one token : Bool) (t : List ℕ) →
    (rest : List ℕ) × (filter is_digit t ≡ (if one then [] else if token then first_group t ++ second_group t else first_group t) ++ rest)
    × (length (if one then [] else if token then first_group t ++ second_group t else first_group t)
    ≡ (if one then 0 else if token then length (first_group t) + length (second_group t) else length (first_group t)))
digits_by true token t = (filter is_digit t, refl, refl)
digits_by false true t = (filter is_digit (after_group (after_group t)), both t, length-append (first_group t) (second_group t))
digits_by false false t = (filter is_digit (after_group t), grouped t, refl)

pub destination_begins : (db : List Metadata) (n : Reading) (m : Metadata) → first_of (territories n.code.value db) ≡ Some m →
    KeepsDigits m n → IsBeginning n (destination_length db n) (destination_digits (has_token (kind_of_number db n) n.code.value) (chars (laid_abroad m (text_of n.national))))
destination_begins db n m first keeps =
    let token = has_token (kind_of_number db n) n.code.value in
    let t = chars (laid_abroad m (text_of n.national)) in
    let k = digits_by (length (second_group t) == 0) token t in
    let count : destination_length db n ≡ length_in_groups token t =
    ap (λ (o : Option Metadata). option_map_or (λ m. length_in_groups token (chars (laid_abroad m (text_of n.national)))) o 0) first in
    (k.0, sym keeps ∙ k.1, k.2 ∙ sym count)

area_by : (n : Reading) (count : ℕ) → (front : List ℕ) × IsBeginning n count front → (has : Bool) →
    (front : List ℕ) × IsBeginning n (if has then count else 0) front
area_by n count h true = h
area_by n count h false = ([], (text_of n.national, refl, refl))

area_in : (db : List Metadata) (n : Reading) (own : Option Metadata) → (front : List ℕ) × IsBeginning n (destination_length db n) front →
    (front : List ℕ) × IsBeginning n (option_map_or (λ m. if has_area (kind_of_number db n) n m then destination_length db n else 0) own 0) front
area_in db n None h = ([], (text_of n.national, refl, refl))
area_in db n (Some m) h = area_by n (destination_length db n) h (has_area (kind_of_number db n) n m)

pub area_begins : (db : List Metadata) (n : Reading) (m : Metadata) → first_of (territories n.code.value db) ≡ Some m →
    KeepsDigits m n → (front : List ℕ) × IsBeginning n (area_length db n) front
area_begins db n m first keeps = area_in db n (own_territory db n) (_, destination_begins db n m first keeps)
