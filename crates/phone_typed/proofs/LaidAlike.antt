-- That a layout sets the same marks where it parts digits alike.
use Rattle.std.proofs.Common.{◌≡◌, ℕ, suc, zero, ◌==◌, ◌&&◌, nat_le, not, Bool, true, false, cond, List, [], ◌∷◌, ◌++◌, take, drop, length, slice_index, Option, None, Some, option_map, append-nil, eqb-true, refl, ap, ap₂, sym, ◌∙◌}
use Rattle.std.proofs.Math.Seq.{drop-length}
use Rattle.std.proofs.lemmas.Bool.{and_parts}
use Rattle.std.proofs.lemmas.List.{map-append, take-append-drop}
use Rattle.std.proofs.lemmas.List.Folds.{list_all-append}
use Rattle.std.specs.List.{list_all}
use Rattle.std.specs.Option.{option_map_or}
use Rattle.regex.specs.Replace.{bytes_of}
use Rattle.regex.specs.Templates.{at_dollar, group_called, name_at, text_or_nothing, written_after}
use Rattle.phone_records.specs.declared.loader.Format.{Format}
use Rattle.phone_territory.specs.First.{Seen, first_match, group_in, is_whole_match, names_in, with_first_replaced}
use Rattle.phone_territory.specs.Layouts.{laid_by, layout_pattern}
use Rattle.phone_typed.specs.Beginnings.{PartsAlike, taken_by}
use Rattle.phone_typed.specs.Keys.{is_key}
use Rattle.phone_typed.specs.Typed.{lays_out}
use Rattle.phone_typed.proofs.BlankTexts.{blank, blanks, keys_blank}
use Rattle.phone_typed.proofs.KeysOfTexts.{all-take}

blanks-append : (a b : List ℕ) → blanks (a ++ b) ≡ blanks a ++ blanks b
blanks-append a b = map-append blank a b

pub all-drop : (n : ℕ) (keys : List ℕ) → list_all is_key keys ≡ true → list_all is_key (drop n keys) ≡ true
all-drop n keys are =
    (and_parts _ _ (sym (list_all-append is_key (take n keys) (drop n keys)) ∙ ap (list_all is_key) (take-append-drop n keys) ∙ are)).1

-- what a span of keys has are keys
pub all-bytes_of : (hay : List ℕ) (span : Option (ℕ × ℕ)) → list_all is_key hay ≡ true → list_all is_key (bytes_of hay span) ≡ true
all-bytes_of hay None are = refl
all-bytes_of hay (Some s) are = all-take _ (drop s.0 hay) (all-drop s.0 hay are)

-- groups that look alike are written so that the whole looks alike
module _ (names : List (Option (List ℕ))) (f g : ℕ → List ℕ) (alike : (n : ℕ) → blanks (f n) ≡ blanks (g n)) where
  alike-text_or_nothing : (o : Option ℕ) → blanks (text_or_nothing names f o) ≡ blanks (text_or_nothing names g o)
  alike-text_or_nothing None = refl
  alike-text_or_nothing (Some n) = alike n

  alike-at_dollar : (o : Option (List ℕ × ℕ)) (s t : ℕ → List ℕ) → ((n : ℕ) → blanks (s n) ≡ blanks (t n)) →
      blanks (at_dollar names f o s) ≡ blanks (at_dollar names g o t)
  alike-at_dollar None s t h = ap (λ x. 36 ∷ x) (h 0)
  alike-at_dollar (Some reference) s t h =
      let called = group_called names reference.0 in
      blanks-append (text_or_nothing names f called) (s reference.1)
      ∙ ap₂ (λ x y. x ++ y) (alike-text_or_nothing called) (h reference.1)
      ∙ sym (blanks-append (text_or_nothing names g called) (t reference.1))

  alike-here : (b : ℕ) (x y : Bool) (o : Option (List ℕ × ℕ)) (s t : ℕ → List ℕ) → ((n : ℕ) → blanks (s n) ≡ blanks (t n)) →
      blanks (cond x (b ∷ s 0) (cond y (36 ∷ s 1) (at_dollar names f o s))) ≡ blanks (cond x (b ∷ t 0) (cond y (36 ∷ t 1) (at_dollar names g o t)))
  alike-here b true y o s t h = ap (λ u. blank b ∷ u) (h 0)
  alike-here b false true o s t h = ap (λ u. 36 ∷ u) (h 1)
  alike-here b false false o s t h = alike-at_dollar o s t h

  pub alike-written_after : (template : List ℕ) (skipped : ℕ) → blanks (written_after names f template skipped) ≡ blanks (written_after names g template skipped)
  unfolding written_after
  alike-written_after [] skipped = refl
  alike-written_after (b ∷ rest) (suc skipped) = alike-written_after rest skipped
  alike-written_after (b ∷ rest) zero =
      alike-here b (not (b == 36)) (slice_index rest 0 == 36) (name_at rest) (written_after names f rest) (written_after names g rest) (λ n. alike-written_after rest n)

-- what stands in the place of a match at the front, and behind it
module _ (names : List (Option (List ℕ))) (template hay : List ℕ) where
  -- what a group has
  abbrev group_text : Option Seen → ℕ → List ℕ
  group_text o group = option_map_or (λ (s : Seen). bytes_of hay (group_in s group)) o []

  abbrev pub written_at : Option Seen → List ℕ
  written_at o = written_after names (group_text o) template 0

  pub whole_written : (o : Option Seen) →
      option_map_or (λ (s : ℕ × ℕ). (s.0 == 0) && (s.1 == length hay)) (option_map (λ (s : Seen). (s.0, s.1)) o) false ≡ true →
      with_first_replaced names template hay o ≡ written_at o
  whole_written None h = absurd (cc)
  whole_written (Some s) h =
      let parts = and_parts (s.0 == 0) (s.1 == length hay) h in
      ap₂ (λ i j. (take i hay ++ written_at (Some s)) ++ drop j hay) (eqb-true s.0 0 parts.0) (eqb-true s.1 (length hay) parts.1)
      ∙ ap (λ t. written_at (Some s) ++ t) (drop-length hay) ∙ append-nil (written_at (Some s))

  pub front_written : (n : ℕ) (o : Option Seen) →
      option_map_or (λ (s : ℕ × ℕ). (s.0 == 0) && nat_le n s.1) (option_map (λ (s : Seen). (s.0, s.1)) o) false ≡ true →
      (more : List ℕ) × (with_first_replaced names template hay o ≡ written_at o ++ more)
  front_written n None h = absurd (cc)
  front_written n (Some s) h =
      let parts = and_parts (s.0 == 0) (nat_le n s.1) h in
      (drop s.1 hay, ap (λ i. (take i hay ++ written_at (Some s)) ++ drop s.1 hay) (eqb-true s.0 0 parts.0))

all-taken : (f : Format) (digits : List ℕ) (group : ℕ) → list_all is_key digits ≡ true → list_all is_key (taken_by f digits group) ≡ true
all-taken f digits group are = at (first_match (layout_pattern f) digits)
  where
    at : (o : Option Seen) → list_all is_key (option_map_or (λ (s : Seen). bytes_of digits (group_in s group)) o []) ≡ true
    at None = refl
    at (Some s) = all-bytes_of digits (group_in s group) are

-- digits that a layout lays out whole, and those that it lays out the first n of: what it writes looks alike
pub laid_alike : (f : Format) (template a b : List ℕ) (n : ℕ) → list_all is_key a ≡ true → list_all is_key b ≡ true → PartsAlike f a b →
    is_whole_match (layout_pattern f) a ≡ true → lays_out n b f ≡ true →
    (front : List ℕ) × (more : List ℕ) × (laid_by f template b ≡ front ++ more) × (blanks front ≡ blanks (laid_by f template a))
laid_alike f template a b n ka kb alike whole out =
    let pattern = layout_pattern f in
    let names = names_in pattern in
    let behind = front_written names template b n (first_match pattern b) (and_parts _ _ out).1 in
    let looks : (group : ℕ) → blanks (taken_by f b group) ≡ blanks (taken_by f a group) =
    λ group. keys_blank _ _ (all-taken f b group kb) (all-taken f a group ka) (sym (alike group)) in (
      written_at names template b (first_match pattern b),
      behind.0,
      behind.1,
      alike-written_after names (taken_by f b) (taken_by f a) looks template 0
          ∙ ap blanks (sym (whole_written names template a (first_match pattern a) whole)),
    )
