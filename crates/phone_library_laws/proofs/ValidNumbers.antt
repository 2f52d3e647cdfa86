-- A number is valid by its kind in its territory, which has its calling code.
use Rattle.std.proofs.Common.{◌≡◌, ◌↔◌, not, Bool, true, false, if◌then◌else◌, List, [], ◌∷◌, ℕ, filter, reverse, Option, None, Some, refl, ap, sym, subst, ◌∙◌, true≢false}
use Rattle.std.proofs.lemmas.Bool.{and_parts, or_from, or_parts}
use Rattle.std.proofs.lemmas.List.Folds.{list_any-append}
use Rattle.std.proofs.lemmas.List.Sorted.{IsPermutation-reverse, list_any-IsPermutation}
use Rattle.std.specs.List.{find, list_any}
use Rattle.std.specs.Option.{option_map_or}
use Rattle.phone_values.specs.Numbers.{text_of}
use Rattle.phone_values.specs.declared.kind.«Type».{«Type»}
use Rattle.phone_values.specs.declared.kind.«Type».TheVariants as kind
use Rattle.phone_values.specs.declared.reading.Reading.{Reading}
use Rattle.phone_read.specs.Kinds.{is_known}
use Rattle.phone_library.specs.Facts.{is_valid_number, kind_of_number, territory_of_number}
use Rattle.phone_library.specs.Kinds.{has_digits, kind_in, territory_among}
use Rattle.phone_plans.specs.CodeLookUps.{is_main_of, is_other_of, territories}
use Rattle.phone_plans.specs.Records.{has_code}
use Rattle.phone_records.specs.declared.loader.Metadata.{Metadata}

-- a kind is known where it isn't unknown
not_unknown : (k : «Type») → is_known k ≡ true → ¬ (k ≡ kind.Unknown)
not_unknown k known e = true≢false (sym known ∙ ap is_known e)

pub known_if_other : (k : «Type») → ¬ (k ≡ kind.Unknown) → is_known k ≡ true
known_if_other kind.Unknown other = absurd (other refl)
known_if_other kind.FixedLine other = refl
known_if_other kind.Mobile other = refl
known_if_other kind.FixedLineOrMobile other = refl
known_if_other kind.TollFree other = refl
known_if_other kind.PremiumRate other = refl
known_if_other kind.SharedCost other = refl
known_if_other kind.PersonalNumber other = refl
known_if_other kind.Voip other = refl
known_if_other kind.Pager other = refl
known_if_other kind.Uan other = refl
known_if_other kind.Emergency other = refl
known_if_other kind.Voicemail other = refl
known_if_other kind.ShortCode other = refl
known_if_other kind.StandardRate other = refl
known_if_other kind.Carrier other = refl
known_if_other kind.NoInternational other = refl

pub valid-known : (db : List Metadata) (n : Reading) → (is_valid_number db n ≡ true) ↔ ¬ (kind_of_number db n ≡ kind.Unknown)
valid-known db n = (not_unknown (kind_of_number db n), known_if_other (kind_of_number db n))

module _ (db : List Metadata) (n : Reading) where
  abbrev digits : List ℕ
  digits = text_of n.national

  -- the kind of a number is its kind in its territory
  abbrev kind_by : Option Metadata → «Type»
  kind_by o = option_map_or (λ (m : Metadata). kind_in m digits) o kind.Unknown

  abbrev pub IsOfKind : Type 0
  IsOfKind = (m : Metadata) × (territory_of_number db n ≡ Some m) × ¬ (kind_in m digits ≡ kind.Unknown)

  territory_if_known : (o : Option Metadata) → territory_of_number db n ≡ o → is_known (kind_by o) ≡ true → IsOfKind
  territory_if_known None e known = absurd (true≢false (sym known))
  territory_if_known (Some m) e known = (m, e, not_unknown (kind_in m digits) known)

  valid_if_kind : IsOfKind → is_valid_number db n ≡ true
  valid_if_kind (m, e, other) = ap (λ o. is_known (kind_by o)) e ∙ known_if_other (kind_in m digits) other

  pub valid-territory : (is_valid_number db n ≡ true) ↔ IsOfKind
  valid-territory = (territory_if_known (territory_of_number db n) refl, valid_if_kind)

-- of a list whose elements have a property, what is found has it
module _ {X : Type 0} (q : X → Bool) where
  none_else : (p : X → Bool) → ((x : X) → p x ≡ true → q x ≡ true) → (xs : List X) → list_any (λ x. not (q x)) (filter p xs) ≡ false
  none_else p narrower [] = refl
  none_else p narrower (x ∷ xs) = at (p x) refl (none_else p narrower xs)
    where
      at : (b : Bool) → p x ≡ b → list_any (λ x. not (q x)) (filter p xs) ≡ false → list_any (λ x. not (q x)) (if b then x ∷ filter p xs else filter p xs) ≡ false
      at true e rest = or_from _ _ (ap not (narrower x e)) rest
      at false e rest = rest

  has_first : (x : X) (xs : List X) → list_any (λ x. not (q x)) (x ∷ xs) ≡ false → q x ≡ true
  has_first x xs none = at (q x) (or_parts (not (q x)) (list_any (λ x. not (q x)) xs) none).0
    where
      at : (b : Bool) → not b ≡ false → b ≡ true
      at true e = refl
      at false e = absurd (true≢false e)

  found_has : (p : X → Bool) (xs : List X) (x : X) → list_any (λ x. not (q x)) xs ≡ false → find p xs ≡ Some x → q x ≡ true
  found_has p [] x none e = absurd (nothing x e)
    where
      nothing : (x : X) → ¬ (None ≡ Some x)
      nothing x e = cc
  found_has p (y ∷ ys) x none e = at (found_has p ys x (or_parts (not (q y)) (list_any (λ x. not (q x)) ys) none).1) (p y) e
    where
      at : (find p ys ≡ Some x → q x ≡ true) → (b : Bool) → (if b then Some y else find p ys) ≡ Some x → q x ≡ true
      at later true f = let same : y ≡ x = cc in subst (λ z. q z ≡ true) same (has_first y ys none)
      at later false f = later f

-- each territory of a code has it
none_of_another : (code : ℕ) (db : List Metadata) → list_any (λ m. not (has_code code m)) (territories code db) ≡ false
none_of_another code db =
    let mains = filter (is_main_of code) db in
    let first : (m : Metadata) → is_main_of code m ≡ true → has_code code m ≡ true = λ m e. (and_parts (has_code code m) m.main_country_for_code e).0 in
    let second : (m : Metadata) → is_other_of code m ≡ true → has_code code m ≡ true = λ m e. (and_parts (has_code code m) (not m.main_country_for_code) e).0 in
    list_any-append (λ m. not (has_code code m)) (reverse mains) (filter (is_other_of code) db)
    ∙ or_from _ _
    (sym (list_any-IsPermutation (λ m. not (has_code code m)) mains (reverse mains) (IsPermutation-reverse mains)) ∙ none_else (has_code code) (is_main_of code) first db)
    (none_else (has_code code) (is_other_of code) second db)

among : (q : Metadata → Bool) (digits : List ℕ) (ms : List Metadata) (m : Metadata) → list_any (λ m. not (q m)) ms ≡ false → territory_among digits ms ≡ Some m → q m ≡ true
among q digits [] m none e = absurd (nothing m e)
  where
    nothing : (m : Metadata) → ¬ (None ≡ Some m)
    nothing m e = cc
among q digits (x ∷ []) m none e = let same : x ≡ m = cc in subst (λ z. q z ≡ true) same (has_first q x [] none)
among q digits (x ∷ y ∷ ms) m none e = found_has q (has_digits digits) (x ∷ y ∷ ms) m none e

pub territory-code : (db : List Metadata) (n : Reading) (m : Metadata) → territory_of_number db n ≡ Some m → has_code n.code.value m ≡ true
territory-code db n m e = among (has_code n.code.value) (text_of n.national) (territories n.code.value db) m (none_of_another n.code.value db) e
