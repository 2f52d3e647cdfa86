-- Entries in the order of their texts.
use Rattle.std.proofs.Common.{◌≡◌, ℕ, Bool, true, false, List, [], ◌∷◌, length, map, option_map, refl, sym, ap, subst, ◌∙◌, nat_cmp, ◌||◌}
use Rattle.std.proofs.lemmas.Cmp.{nat_list_eq_equiv}
use Rattle.std.proofs.lemmas.List.{length-map}
use Rattle.std.proofs.lemmas.List.Folds.{Any-from_list_any}
use Rattle.std.proofs.lemmas.List.Kept.{IsStrictlySortedBy-dedup}
use Rattle.std.proofs.lemmas.List.Sorted.{list_any-IsPermutation}
use Rattle.std.proofs.lemmas.Map.Keys.{IsDistinct-from_sorted, Less-from_sorted}
use Rattle.std.proofs.lemmas.Map.Made.{length-from_keys}
use Rattle.std.proofs.lemmas.Slice.Eq.{bytes_eq-Decides}
use Rattle.std.specs.Cmp.Lexicographic.{on_texts, slice_cmp, texts_ties}
use Rattle.std.specs.List.{AllByRecursion, Any, IsDistinct, dedup, find, list_any}
use Rattle.std.specs.List.Sorted.{IsPermutation, IsSorted, IsStable, IsStrictlySortedBy}
use Rattle.std.specs.Option.{is_some}
use Rattle.std.specs.Ordering.{eq_by_cmp, on}
use Rattle.std.specs.Set.{distinct_count, is_member}
use Rattle.std.specs.Str.{bytes_eq}
use Rattle.std.specs.declared.cmp.Ordering.{Ordering}
use Rattle.phone_index.specs.Orders.{Rises, has_text, place_of, text_of}
use Rattle.phone_index.specs.declared.sorted.Named.{Named}
use Rattle.phone_index.proofs.Finds.{find-dedup, find-filter, is_some-find, none_found}
use Rattle.phone_index.proofs.Stays.{same_stay}

-- the order of two entries
abbrev pub by_text : Named → Named → Ordering
by_text = on text_of (slice_cmp nat_cmp)

-- two entries have one text
abbrev pub same_text : Named → Named → Bool
same_text x y = bytes_eq (text_of x) (text_of y)

same_ties : (x y : Named) → same_text x y ≡ eq_by_cmp by_text x y
same_ties x y = texts_ties (text_of x) (text_of y)

all-map : {X Y : Type 0} (f : X → Y) (P : Y → Type 0) (xs : List X) → AllByRecursion (λ x. P (f x)) xs → AllByRecursion P (map f xs)
all-map f P [] h = tt
all-map f P (x ∷ xs) h = (h.0, all-map f P xs h.1)

IsDistinct-map : {X Y : Type 0} (f : X → Y) (e : Y → Y → Bool) (xs : List X) → IsDistinct (λ x y. e (f x) (f y)) xs → IsDistinct e (map f xs)
unfolding IsDistinct
IsDistinct-map f e [] h = tt
IsDistinct-map f e (x ∷ xs) h = (all-map f (λ y. e (f x) y ≡ false) xs h.0, IsDistinct-map f e xs h.1)

any-map : {X Y : Type 0} (f : X → Y) (p : Y → Bool) (xs : List X) → list_any p (map f xs) ≡ list_any (λ x. p (f x)) xs
any-map f p [] = refl
any-map f p (x ∷ xs) = ap (λ b. p (f x) || b) (any-map f p xs)

-- a list of entries and what a stable sort by text makes of it
module _ (xs ys : List Named) (sorted : IsSorted by_text ys) (stable : IsStable by_text xs ys) (moved : IsPermutation xs ys) where
  sorted_find : (text : List ℕ) → find (has_text text) ys ≡ find (has_text text) xs
  sorted_find text = by (list_any (has_text text) ys) refl
    where
      with_text : (x : Named) → text_of x ≡ text → find (has_text text) ys ≡ find (has_text text) xs
      with_text x e =
          subst (λ t. find (has_text t) ys ≡ find (has_text t) xs) e
          (sym (find-filter (has_text (text_of x)) ys)
          ∙ ap (find (has_text (text_of x))) (same_stay (on_texts text_of) same_ties xs ys stable x)
          ∙ find-filter (has_text (text_of x)) xs)

      from_any : Any (λ x. has_text text x ≡ true) ys → find (has_text text) ys ≡ find (has_text text) xs
      from_any a = with_text a.1 ((bytes_eq-Decides (text_of a.1) text).0 a.4)

      by : (b : Bool) → list_any (has_text text) ys ≡ b → find (has_text text) ys ≡ find (has_text text) xs
      by true e = from_any (Any-from_list_any (has_text text) ys e)
      by false e = none_found (has_text text) ys e ∙ sym (none_found (has_text text) xs (list_any-IsPermutation (has_text text) xs ys moved ∙ e))

  kept_find : (text : List ℕ) → find (has_text text) (dedup same_text ys) ≡ find (has_text text) xs
  kept_find text = find-dedup same_text (has_text text) (λ x y e. nat_list_eq_equiv.congr (text_of x) (text_of y) text e) ys ∙ sorted_find text

  -- of each text the first place is kept
  pub kept_first : (text : List ℕ) → place_of text (dedup same_text ys) ≡ place_of text xs
  kept_first text = ap (option_map (λ e. e.place)) (kept_find text)

  kept_rise : IsStrictlySortedBy by_text (dedup same_text ys)
  kept_rise = IsStrictlySortedBy-dedup (on_texts text_of) same_ties ys sorted

  -- what is kept rises
  pub Rises-kept : Rises (dedup same_text ys)
  Rises-kept i j d g h = Less-from_sorted by_text (dedup same_text ys) i j d kept_rise g h

  -- it has each text once
  pub kept_once : (zs : List Named) → IsPermutation zs xs → length (dedup same_text ys) ≡ distinct_count bytes_eq (map text_of zs)
  kept_once zs same =
      sym (length-map (dedup same_text ys) text_of) ∙ length-from_keys nat_list_eq_equiv (map text_of (dedup same_text ys)) (map text_of zs) distinct members
    where
      distinct : IsDistinct bytes_eq (map text_of (dedup same_text ys))
      distinct =
          IsDistinct-map text_of bytes_eq _
          (subst (λ e. IsDistinct e (dedup same_text ys)) (λ i x y. sym (same_ties x y) i) (IsDistinct-from_sorted by_text (dedup same_text ys) kept_rise))

      has : (q : List ℕ) (es : List Named) → is_member bytes_eq (map text_of es) q ≡ list_any (has_text q) es
      has q es = any-map text_of (bytes_eq q) es ∙ (λ i. list_any (λ e. nat_list_eq_equiv.symm q (text_of e) i) es)

      members : (q : List ℕ) → is_member bytes_eq (map text_of (dedup same_text ys)) q ≡ is_member bytes_eq (map text_of zs) q
      members q =
          has q (dedup same_text ys) ∙ sym (is_some-find (has_text q) (dedup same_text ys)) ∙ ap is_some (kept_find q) ∙ is_some-find (has_text q) xs
          ∙ sym (list_any-IsPermutation (has_text q) zs xs same) ∙ sym (has q zs)
