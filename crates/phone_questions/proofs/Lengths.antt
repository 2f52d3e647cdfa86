-- A number with a count of digits that no territory of its calling code has isn't valid.
use Rattle.std.proofs.Common.{◌≡◌, ℕ, ◌&&◌, ◌||◌, Bool, true, false, cond, if◌then◌else◌, List, [], ◌∷◌, ◌++◌, length, filter, reverse, Option, None, Some, refl, ap, sym, subst, ◌∙◌}
use Rattle.std.proofs.lemmas.Bool.{or_from, or_parts}
use Rattle.std.proofs.lemmas.List.Folds.{list_any-append}
use Rattle.std.proofs.lemmas.List.Sorted.{IsPermutation-reverse, list_any-IsPermutation}
use Rattle.std.specs.List.{find, list_any}
use Rattle.std.specs.Option.{option_map_or}
use Rattle.phone_library.specs.Facts.{is_valid_number, territory_of_number}
use Rattle.phone_library.specs.Kinds.{has_digits, is_number_of, kind_in, territory_among}
use Rattle.phone_plans.proofs.InOrder.{in_order, territories-in_order}
use Rattle.phone_plans.specs.CodeLookUps.{is_main, is_other, territories}
use Rattle.phone_plans.specs.Records.{has_code}
use Rattle.phone_questions.specs.Truncation.{has_length}
use Rattle.phone_records.specs.declared.loader.Descriptor.{Descriptor}
use Rattle.phone_records.specs.declared.loader.Metadata.{Metadata}
use Rattle.phone_read.specs.Kinds.{is_known}
use Rattle.phone_territory.specs.First.{is_whole_match}
use Rattle.phone_territory.specs.Records.{allows_length, pattern_of}
use Rattle.phone_values.specs.Numbers.{text_of}
use Rattle.phone_values.specs.declared.kind.«Type».TheVariants.{Unknown}
use Rattle.phone_values.specs.declared.reading.Reading.{Reading}

-- of a list in which no element passes
module _ (p : Metadata → Bool) where
  none_filtered : (r : Metadata → Bool) (xs : List Metadata) → list_any p xs ≡ false → list_any p (filter r xs) ≡ false
  none_filtered r [] none = refl
  none_filtered r (x ∷ xs) none =
      let both = or_parts (p x) (list_any p xs) none in
      at (r x) both.0 (none_filtered r xs both.1)
    where
      at : (b : Bool) → p x ≡ false → list_any p (filter r xs) ≡ false → list_any p (if b then x ∷ filter r xs else filter r xs) ≡ false
      at true here rest = or_from (p x) (list_any p (filter r xs)) here rest
      at false here rest = rest

  none_in_order : (xs : List Metadata) → list_any p xs ≡ false → list_any p (in_order xs) ≡ false
  none_in_order xs none =
      list_any-append p (reverse (filter is_main xs)) (filter is_other xs)
      ∙ or_from _ _
      (sym (list_any-IsPermutation p (filter is_main xs) (reverse (filter is_main xs)) (IsPermutation-reverse (filter is_main xs))) ∙ none_filtered is_main xs none)
      (none_filtered is_other xs none)

  found_fails : (q : Metadata → Bool) (xs : List Metadata) (x : Metadata) → list_any p xs ≡ false → find q xs ≡ Some x → p x ≡ false
  found_fails q [] x none e = absurd (nothing x e)
    where
      nothing : (x : Metadata) → ¬ (None ≡ Some x)
      nothing x e = cc
  found_fails q (y ∷ ys) x none e = at (found_fails q ys x (or_parts (p y) (list_any p ys) none).1) (q y) e
    where
      at : (find q ys ≡ Some x → p x ≡ false) → (b : Bool) → (if b then Some y else find q ys) ≡ Some x → p x ≡ false
      at later true f = let same : y ≡ x = cc in subst (λ z. p z ≡ false) same (or_parts (p y) (list_any p ys) none).0
      at later false f = later f

  among_fails : (digits : List ℕ) (xs : List Metadata) (x : Metadata) → list_any p xs ≡ false → territory_among digits xs ≡ Some x → p x ≡ false
  among_fails digits [] x none e = absurd (nothing x e)
    where
      nothing : (x : Metadata) → ¬ (None ≡ Some x)
      nothing x e = cc
  among_fails digits (y ∷ []) x none e = let same : y ≡ x = cc in subst (λ z. p z ≡ false) same (or_parts (p y) false none).0
  among_fails digits (y ∷ z ∷ zs) x none e = found_fails (has_digits digits) (y ∷ z ∷ zs) x none e

-- a territory without numbers of so many digits knows no kind of them
no_number : (digits : List ℕ) (d : Option Descriptor) → option_map_or (λ (d : Descriptor). allows_length d (length digits)) d false ≡ false → is_number_of d digits ≡ false
no_number digits None e = refl
no_number digits (Some d) e = ap (λ b. b && is_whole_match (pattern_of d) digits) e

unknown : (m : Metadata) (digits : List ℕ) → has_length (length digits) m ≡ false → kind_in m digits ≡ Unknown
unknown m digits e = rw (no_number digits m.general e) refl

-- where no territory of its code has numbers of so many digits, a number isn't valid
pub no_length : (db : List Metadata) (n : Reading) (code count : ℕ) → code ≡ n.code.value → count ≡ length (text_of n.national) →
    list_any (has_length count) (filter (has_code code) db) ≡ false → is_valid_number db n ≡ false
no_length db n code count is counted none = at (territory_of_number db n) refl
  where
    digits : List ℕ
    digits = text_of n.national

    here : list_any (has_length (length digits)) (filter (has_code n.code.value) db) ≡ false
    here = subst (λ k. list_any (has_length k) (filter (has_code n.code.value) db) ≡ false) counted
        (subst (λ c. list_any (has_length count) (filter (has_code c) db) ≡ false) is none)

    none_there : list_any (has_length (length digits)) (territories n.code.value db) ≡ false
    none_there = ap (list_any (has_length (length digits))) (territories-in_order n.code.value db)
        ∙ none_in_order (has_length (length digits)) (filter (has_code n.code.value) db) here

    at : (o : Option Metadata) → territory_of_number db n ≡ o → is_known (option_map_or (λ (m : Metadata). kind_in m digits) o Unknown) ≡ false
    at None e = refl
    at (Some m) e = ap is_known (unknown m digits (among_fails (has_length (length digits)) digits (territories n.code.value db) m none_there e))
