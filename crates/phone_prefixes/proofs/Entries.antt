-- One entry more: where it stands, and its mark.
use Rattle.std.proofs.Common.{◌≡◌, ◌⊎◌, inl, inr, ℕ, ◌+◌, ◌<◌, ◌≤◌, Bool, true, false, List, [], ◌∷◌, ◌++◌, length, get_or, Some, None, refl, ap, sym, subst, ◌∙◌, arith, length-append}
use Rattle.std.proofs.Math.Seq.{get_or-append_seam}
use Rattle.std.proofs.lemmas.Bool.{cases_lt, false≢true}
use Rattle.std.proofs.lemmas.List.{get_or_append_left, get_or-map, map-append, length-map}
use Rattle.std.proofs.lemmas.Slice.Eq.{bytes_eq-Decides}
use Rattle.std.specs.Bool.{Decides}
use Rattle.std.specs.List.{Contains}
use Rattle.std.specs.Str.{bytes_eq}
use Rattle.phone_prefixes.specs.declared.span.Span.{Span}
use Rattle.phone_prefixes.specs.Marks.{IsMarked, Marks}
use Rattle.phone_prefixes.specs.Spans.{entries_in, entry_in, IsIndexed, IsSpan}
use Rattle.phone_prefixes.specs.Tables.{Entry, HasPrefix, IsEntry, IsOneMore}
use Rattle.phone_prefixes.proofs.Trees.{same_some, some≢none}

-- texts are the same or not
pub cases_text : (a b : List ℕ) → (a ≡ b) ⊎ (a ≡ b → ⊥)
cases_text a b = step (bytes_eq a b) (bytes_eq-Decides a b)
  where
    step : (r : Bool) → Decides r (a ≡ b) → (a ≡ b) ⊎ (a ≡ b → ⊥)
    step true d = inl (d.0 refl)
    step false d = inr (λ e. false≢true (d.1 e))

module _ (bytes : List ℕ) (spans : List Span) (marks : Marks) (indexed : IsIndexed bytes spans marks) where
  -- the entry at a place
  pub at_place : (k : ℕ) (d : Span) (e : Entry) → k < length spans → get_or (entries_in bytes spans) k e ≡ entry_in bytes (get_or spans k d)
  at_place k d e less = get_or-map (entry_in bytes) spans k d e less

  pub counted : length (entries_in bytes spans) ≡ length spans
  counted = length-map spans (entry_in bytes)

  -- the mark of an entry's prefix
  pub mark_of_entry : (entry : Entry) (k : ℕ) → k < length (entries_in bytes spans) → get_or (entries_in bytes spans) k entry ≡ entry → marks entry.prefix ≡ Some k
  mark_of_entry entry k less is =
      let within : k < length spans = omega (arith, less, counted) in
      let d : Span = record { start = 0; tab = 0; end = 0 } in
      subst (λ (e : Entry). marks e.prefix ≡ Some k) (sym (at_place k d entry within) ∙ is) (indexed.marked k d within)

  -- the entry of a mark
  pub entry_of_mark : (text : List ℕ) (k : ℕ) (d : Span) → marks text ≡ Some k → Contains (entries_in bytes spans) (entry_in bytes (get_or spans k d))
  entry_of_mark text k d e =
      let at = indexed.named text k d e in
      (k, omega (arith, at.0, counted), at_place k d _ at.0)

  -- a text without a mark is no entry's prefix, and one with a mark is
  pub no_prefix : (text : List ℕ) → marks text ≡ None → HasPrefix (entries_in bytes spans) text → ⊥
  no_prefix text none (entry, (k, less, is), same) = some≢none (sym (ap marks same) ∙ mark_of_entry entry k less is) none

  pub has_prefix : (text : List ℕ) (k : ℕ) → marks text ≡ Some k → HasPrefix (entries_in bytes spans) text
  has_prefix text k e =
      let d : Span = record { start = 0; tab = 0; end = 0 } in
      (entry_in bytes (get_or spans k d), entry_of_mark text k d e, (indexed.named text k d e).1)

  -- a span more
  module _ (span : Span) (new : Marks) (is : IsSpan bytes span) (free : marks (entry_in bytes span).prefix ≡ None) (marked : IsMarked marks new (entry_in bytes span).prefix (length spans)) where
    abbrev all : List Span
    all = spans ++ span ∷ []

    longer : length all ≡ length spans + 1
    longer = length-append spans (span ∷ [])

    earlier : (k : ℕ) (d : Span) → k < length spans → get_or all k d ≡ get_or spans k d
    earlier k d less = get_or_append_left spans (span ∷ []) d k less

    last : (k : ℕ) (d : Span) → k ≡ length spans → get_or all k d ≡ span
    last k d e = ap (λ i. get_or all i d) e ∙ get_or-append_seam spans span [] d

    place : (k : ℕ) → k < length all → (k < length spans) ⊎ (k ≡ length spans)
    place k less = step (cases_lt k (length spans))
      where
        step : (k < length spans) ⊎ (length spans ≤ k) → (k < length spans) ⊎ (k ≡ length spans)
        step (inl a) = inl a
        step (inr b) = inr (omega (arith, less, b, longer))

    new_spans : (k : ℕ) (d : Span) → k < length all → IsSpan bytes (get_or all k d)
    new_spans k d less = step (place k less)
      where
        step : (k < length spans) ⊎ (k ≡ length spans) → IsSpan bytes (get_or all k d)
        step (inl a) = subst (IsSpan bytes) (sym (earlier k d a)) (indexed.stand k d a)
        step (inr e) = subst (IsSpan bytes) (sym (last k d e)) is

    new_marked : (k : ℕ) (d : Span) → k < length all → new (entry_in bytes (get_or all k d)).prefix ≡ Some k
    new_marked k d less = step (place k less)
      where
        step : (k < length spans) ⊎ (k ≡ length spans) → new (entry_in bytes (get_or all k d)).prefix ≡ Some k
        step (inl a) =
            let old = indexed.marked k d a in
            ap (λ s. new (entry_in bytes s).prefix) (earlier k d a)
            ∙ marked.others _ (λ same. some≢none old (ap marks same ∙ free)) ∙ old
        step (inr e) = ap (λ s. new (entry_in bytes s).prefix) (last k d e) ∙ marked.has ∙ ap Some (sym e)

    new_marks : (text : List ℕ) (k : ℕ) (d : Span) → new text ≡ Some k → (k < length all) × ((entry_in bytes (get_or all k d)).prefix ≡ text)
    new_marks text k d e = step (cases_text text (entry_in bytes span).prefix)
      where
        step : (text ≡ (entry_in bytes span).prefix) ⊎ (text ≡ (entry_in bytes span).prefix → ⊥) → (k < length all) × ((entry_in bytes (get_or all k d)).prefix ≡ text)
        step (inl same) =
            let at : k ≡ length spans = same_some e (ap new same ∙ marked.has) in
            (omega (arith, at, longer), ap (λ s. (entry_in bytes s).prefix) (last k d at) ∙ sym same)
        step (inr other) =
            let old = indexed.named text k d (sym (marked.others text other) ∙ e) in
            (omega (arith, old.0, longer), ap (λ s. (entry_in bytes s).prefix) (earlier k d old.0) ∙ old.1)

    pub indexed_more : IsIndexed bytes all new
    indexed_more = record { stand = new_spans; marked = new_marked; named = new_marks }

    pub one_more : (line : List ℕ) → IsEntry line (entry_in bytes span) → IsOneMore (entries_in bytes spans) line (entries_in bytes all)
    one_more line entry = record {
      entry = entry_in bytes span;
      is = entry;
      other = no_prefix (entry_in bytes span).prefix free;
      all = map-append (entry_in bytes) spans (span ∷ []);
    }
