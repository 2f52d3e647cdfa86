-- Entries whose keys are those of their numbers: a key is there exactly where the same number is.
use Rattle.std.proofs.Common.{◌≡◌, ◌==◌, ◌||◌, Bool, true, false, cond, List, [], ◌∷◌, ◌++◌, Option, None}
use Rattle.std.proofs.Common.{Some, is_some, String, Global, string_bytes, string_eq, refl, ap, ap₂, sym, subst, ◌∙◌, true≢false}
use Rattle.std.proofs.lemmas.Bool.{and_from, eq-eqb}
use Rattle.std.proofs.lemmas.List.{map-append}
use Rattle.std.proofs.lemmas.Map.Made.{is_some-lookup}
use Rattle.std.proofs.lemmas.Slice.Eq.{bytes_eq-Decides}
use Rattle.std.specs.Fmt.{decimal}
use Rattle.std.specs.List.{list_any}
use Rattle.std.specs.Map.{keys_of, lookup, values_of}
use Rattle.indexmap.proofs.CallerLemmas.{insert_entry-new}
use Rattle.indexmap.specs.IndexMap.{IndexMap, insert_entry}
use Rattle.phone_values.specs.Numbers.{IsHeld, text_of}
use Rattle.phone_plans.specs.CodeLookUps.{is_listed, is_prefix_free}
use Rattle.phone_records.specs.declared.loader.Metadata.{Metadata}
use Rattle.phone_values.specs.declared.reading.Reading.{Reading}
use Rattle.phone_print.specs.Texts.{e164_text}
use Rattle.phone_book.specs.Books.{AreKept, Entry, IsKept}
use Rattle.phone_book.specs.Firsts.{firsts, is_among, is_same_extension, is_same_national, is_same_number}
use Rattle.phone_book.specs.Keys.{key_text}
use Rattle.phonenumber.specs.Bounds.{IsBounded}
use Rattle.phone_book.proofs.FirstLemmas.{extension-same, firsts-new, same-parts}
use Rattle.phone_book.proofs.KeyLemmas.{key_parts, key_same}

pub AreKept-push : (db : List Metadata) (es : List Entry) (p : Entry) → AreKept db es → string_bytes p.0 ≡ key_text p.1 →
    is_listed p.1.code.value db ≡ true → IsBounded p.1 → AreKept db (es ++ p ∷ [])
AreKept-push db [] p h text listed held = ((text, listed, held), tt)
AreKept-push db (q ∷ es) p h text listed held = (h.0, AreKept-push db es p h.1 text listed held)

pub some_from : {A : Type 0} (o : Option A) → true ≡ is_some o → (x : A) × (o ≡ Some x)
some_from None h = absurd (true≢false h)
some_from (Some x) h = (x, refl)

pub none_from : {A : Type 0} (o : Option A) → false ≡ is_some o → o ≡ None
none_from None h = refl
none_from (Some x) h = absurd (true≢false (sym h))

both_ways : (a b : Bool) → (a ≡ true → b ≡ true) → (b ≡ true → a ≡ true) → a ≡ b
both_ways true true f g = refl
both_ways true false f g = sym (f refl)
both_ways false true f g = g refl
both_ways false false f g = refl

some_same : (x y : Reading) → Some x ≡ Some y → x ≡ y
some_same x y e = cc

-- the law of keys: of listed codes, equal texts are of one number
abbrev pub TellsNumbers : Type 0
TellsNumbers = (db : List Metadata) (a b : Reading) → is_prefix_free db ≡ true → is_listed a.code.value db ≡ true → is_listed b.code.value db ≡ true →
    IsHeld a.national → IsHeld b.national → e164_text a ≡ e164_text b → (a.code.value ≡ b.code.value) × (a.national ≡ b.national)

module _ (law : TellsNumbers) (db : List Metadata) (free : is_prefix_free db ≡ true) (n : Reading) (listed : is_listed n.code.value db ≡ true)
    (held : IsBounded n) (key : String Global) (is_key : string_bytes key ≡ key_text n) where
  -- numbers are the same where their keys are
  same-key : (p : Entry) → IsKept db p → string_eq key p.0 ≡ is_same_number p.1 n
  same-key p h = both_ways (string_eq key p.0) (is_same_number p.1 n) there back
    where
      there : string_eq key p.0 ≡ true → is_same_number p.1 n ≡ true
      there e =
          let texts : string_bytes key ≡ string_bytes p.0 = (bytes_eq-Decides (string_bytes key) (string_bytes p.0)).0 e in
          let keys = key_parts p.1 n h.2 held (sym h.0 ∙ sym texts ∙ is_key) in
          let parts = law db p.1 n free h.1 listed h.2.national held.national keys.0 in
          and_from (p.1.code.value == n.code.value) _ (eq-eqb _ _ parts.0)
          (and_from (is_same_national p.1.national n.national) _
          (and_from (p.1.national.zeros == n.national.zeros) _ (eq-eqb _ _ (ap (λ m. m.zeros) parts.1)) (eq-eqb _ _ (ap (λ m. m.value) parts.1)))
          (subst (λ x. is_same_extension p.1.extension x ≡ true) keys.1 (extension-same p.1.extension)))

      back : is_same_number p.1 n ≡ true → string_eq key p.0 ≡ true
      back e =
          let parts = same-parts p.1 n e in
          (bytes_eq-Decides (string_bytes key) (string_bytes p.0)).1
          (is_key ∙ sym (key_same p.1 n (ap₂ (λ c m. 43 ∷ (decimal c ++ text_of m)) parts.0 parts.1) parts.2) ∙ sym h.0)

  -- the key is among the keys where the number is among the numbers
  among-keys : (es : List Entry) → AreKept db es → list_any (string_eq key) (keys_of es) ≡ is_among n (values_of es)
  among-keys [] h = refl
  among-keys (p ∷ es) h = ap₂ ◌||◌ (same-key p h.0) (among-keys es h.1)

  is_some-among : (es : List Entry) → AreKept db es → is_some (lookup (string_eq key) es) ≡ is_among n (values_of es)
  is_some-among es h = is_some-lookup (string_eq key) es ∙ among-keys es h

  -- what stands at the key is the same number
  pub found-same : (es : List Entry) (e : Reading) → AreKept db es → lookup (string_eq key) es ≡ Some e → is_same_number e n ≡ true
  found-same [] e h f = cc
  found-same (p ∷ es) e h f = at (found-same es e h.1) (string_eq key p.0) refl
    where
      at : (lookup (string_eq key) es ≡ Some e → is_same_number e n ≡ true) → (b : Bool) → string_eq key p.0 ≡ b → is_same_number e n ≡ true
      at more true g =
          let same : p.1 ≡ e = some_same p.1 e (sym (ap (λ b. cond b (Some p.1) (lookup (string_eq key) es)) g) ∙ f) in
          subst (λ m. is_same_number m n ≡ true) same (sym (same-key p h.0) ∙ g)
      at more false g = more (sym (ap (λ b. cond b (Some p.1) (lookup (string_eq key) es)) g) ∙ f)

  -- a new key goes last: its number was not among the others, and the numbers stay the first ones
  pub record IsAfterNew (es new : List Entry) : Type 0 where
    pub fresh : is_among n (values_of es) ≡ false
    pub numbers : values_of new ≡ values_of es ++ n ∷ []
    pub all_first : firsts (values_of new) ≡ values_of new
    pub kept : AreKept db new

  pub after-new : {S : Type 0} (m : IndexMap (String Global) Reading S) (new : List Entry) → AreKept db m.entries →
      firsts (values_of m.entries) ≡ values_of m.entries →
      new ≡ insert_entry string_eq m.entries key n → false ≡ is_some (lookup (string_eq key) m.entries) → IsAfterNew m.entries new
  after-new m new kept all_first added none =
      let es = m.entries in
      let pushed : new ≡ es ++ (key, n) ∷ [] = added ∙ insert_entry-new string_eq m key n (none_from _ none) in
      let fresh : is_among n (values_of es) ≡ false = sym (is_some-among es kept) ∙ sym none in
      let last : values_of (es ++ (key, n) ∷ []) ≡ values_of es ++ n ∷ [] = map-append (λ p. p.1) es ((key, n) ∷ []) in
      record {
        fresh = fresh;
        numbers = ap values_of pushed ∙ last;
        all_first = subst (λ xs. firsts (values_of xs) ≡ values_of xs) (sym pushed)
            (ap firsts last ∙ firsts-new (values_of es) n fresh ∙ ap (λ ns. ns ++ n ∷ []) all_first ∙ sym last);
        kept = subst (AreKept db) (sym pushed) (AreKept-push db es (key, n) kept is_key listed held);
      }
