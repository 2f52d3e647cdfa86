-- Sets that simple folding keeps, and how texts that are like a word begin and end. Decimal digits have no case: each folds to itself.
use Rattle.std.proofs.Common.{◌≡◌, ℕ, suc, ◌==◌, Bool, true, false, not, ◌||◌, List, [], ◌∷◌, ◌++◌, length, slice_index_or, refl, ap, sym, ◌∙◌, true≢false, eqb-true}
use Rattle.std.proofs.lemmas.Bool.{and_parts, false_from_ne_true}
use Rattle.std.proofs.lemmas.List.{nil_from_length}
use Rattle.std.specs.List.{list_any, list_all}
use Rattle.ucd_case.proofs.CaseFoldingLemmas.{simple_folding_stepped}
use Rattle.ucd_case.proofs.Computing.{ucd_case}
use Rattle.ucd_case.specs.CaseFolding.{simple_fold, simple_folding}
use Rattle.ucd_category.proofs.Computing.{ucd_category}
use Rattle.ucd_category.proofs.GeneralCategoryLemmas.{general_category_stepped}
use Rattle.ucd_category.specs.GeneralCategory.{general_category, general_category_eq}
use Rattle.ucd_category.specs.declared.GeneralCategory.{GeneralCategory}
use Rattle.ucd_category.specs.declared.GeneralCategory.TheVariants.{DecimalNumber}
use Rattle.ucd_table.proofs.Facts.{Stepped-everywhere}
use Rattle.ucd_table.proofs.Stepped.{zip_stepped}
use Rattle.phone_chars.specs.Characters.{is_nd, same_fold}
use Rattle.phone_parts.specs.Texts.{begins, ends, is_like}
use Rattle.phone_parts.proofs.Ends.{begins_of_front, begins_wider, ends_wider}

-- a digit has no folding, computed over all characters
digits_unfolded : (c : ℕ) → (not (is_nd c) || (length (simple_folding c) == 0)) ≡ true
unfolding ucd_case ucd_category
digits_unfolded =
    let apart = λ (category : GeneralCategory) (folding : List ℕ). not (general_category_eq category DecimalNumber) || (length folding == 0) in
    let steps = zip_stepped apart general_category simple_folding general_category_stepped simple_folding_stepped in
    Stepped-everywhere (λ c. apart (general_category c) (simple_folding c)) steps refl

-- a digit folds to itself
pub simple_fold-digit : (c : ℕ) → is_nd c ≡ true → simple_fold c ≡ c
simple_fold-digit c digit =
    let none : (length (simple_folding c) == 0) ≡ true = rw digit at (digits_unfolded c) in
    ap (λ v. slice_index_or v 0 c) (nil_from_length (simple_folding c) (eqb-true _ 0 none))

-- a character of the set folds to one of the set
abbrev pub IsFolded : (ℕ → Bool) → Type 0
IsFolded p = (c : ℕ) → p c ≡ true → p (simple_fold c) ≡ true

pub nd_folded : IsFolded is_nd
nd_folded c digit = ap is_nd (simple_fold-digit c digit) ∙ digit

-- such a set has no character that folds as another does whose folding is outside
pub not_in_folded : (p : ℕ → Bool) (c w : ℕ) → IsFolded p → same_fold c w ≡ true → p (simple_fold w) ≡ false → p c ≡ false
not_in_folded p c w folded same none =
    false_from_ne_true (p c) (λ e. true≢false (sym (folded c e) ∙ ap p (eqb-true (simple_fold c) (simple_fold w) same) ∙ none))

-- texts that are alike are of one length
pub length-like : (a b : List ℕ) → is_like a b ≡ true → length a ≡ length b
length-like [] [] h = refl
length-like [] (w ∷ ws) h = absurd (true≢false (sym h))
length-like (c ∷ cs) [] h = absurd (true≢false (sym h))
length-like (c ∷ cs) (w ∷ ws) h = ap (λ n. suc n) (length-like cs ws (and_parts (same_fold c w) (is_like cs ws) h).1)

-- texts that are alike begin and end in characters of one folding
pub begins-folded : (p : ℕ → Bool) (a b : List ℕ) → is_like a b ≡ true → begins (λ c. p (simple_fold c)) a ≡ begins (λ c. p (simple_fold c)) b
begins-folded p [] [] h = refl
begins-folded p [] (w ∷ ws) h = absurd (true≢false (sym h))
begins-folded p (c ∷ cs) [] h = absurd (true≢false (sym h))
begins-folded p (c ∷ cs) (w ∷ ws) h = ap p (eqb-true (simple_fold c) (simple_fold w) (and_parts (same_fold c w) (is_like cs ws) h).0)

pub ends-folded : (p : ℕ → Bool) (a b : List ℕ) → is_like a b ≡ true → ends (λ c. p (simple_fold c)) a ≡ ends (λ c. p (simple_fold c)) b
ends-folded p [] [] h = refl
ends-folded p [] (w ∷ ws) h = absurd (true≢false (sym h))
ends-folded p (c ∷ cs) [] h = absurd (true≢false (sym h))
ends-folded p (c ∷ []) (w ∷ []) h = ap p (eqb-true (simple_fold c) (simple_fold w) (and_parts (same_fold c w) true h).0)
ends-folded p (c ∷ []) (w ∷ x ∷ ws) h = absurd (true≢false (sym (and_parts (same_fold c w) false h).1))
ends-folded p (c ∷ d ∷ cs) (w ∷ []) h = absurd (true≢false (sym (and_parts (same_fold c w) false h).1))
ends-folded p (c ∷ d ∷ cs) (w ∷ x ∷ ws) h = ends-folded p (d ∷ cs) (x ∷ ws) (and_parts (same_fold c w) (is_like (d ∷ cs) (x ∷ ws)) h).1

-- a text that is like a word begins and ends in no character of a folded set, where the foldings of the word's ends are outside
pub begins-like : (p : ℕ → Bool) → IsFolded p → (name word : List ℕ) → is_like name word ≡ true → begins (λ c. p (simple_fold c)) word ≡ false →
    begins p name ≡ false
begins-like p folded name word h none =
    false_from_ne_true (begins p name) (λ e. true≢false (sym (begins_wider p (λ c. p (simple_fold c)) folded name e) ∙ begins-folded p name word h ∙ none))

pub ends-like : (p : ℕ → Bool) → IsFolded p → (name word : List ℕ) → is_like name word ≡ true → ends (λ c. p (simple_fold c)) word ≡ false →
    ends p name ≡ false
ends-like p folded name word h none =
    false_from_ne_true (ends p name) (λ e. true≢false (sym (ends_wider p (λ c. p (simple_fold c)) folded name e) ∙ ends-folded p name word h ∙ none))

-- of the words that a text is like one is met, with what holds of each of them
pub record IsLikeOne (q : List ℕ → Bool) (name : List ℕ) : Type 0 where
  pub word : List ℕ
  pub like : is_like name word ≡ true
  pub holds : q word ≡ true

pub like_one : (q : List ℕ → Bool) (name : List ℕ) (words : List (List ℕ)) → list_any (is_like name) words ≡ true → list_all q words ≡ true → IsLikeOne q name
like_one q name [] h all = absurd (true≢false (sym h))
like_one q name (w ∷ ws) h all = at_head (is_like name w) refl h (and_parts (q w) (list_all q ws) all) (like_one q name ws)
  where
    at_head : (b : Bool) → is_like name w ≡ b → (b || list_any (is_like name) ws) ≡ true → (q w ≡ true) × (list_all q ws ≡ true) →
        (list_any (is_like name) ws ≡ true → list_all q ws ≡ true → IsLikeOne q name) → IsLikeOne q name
    at_head true e f parts g = record { word = w; like = e; holds = parts.0 }
    at_head false e f parts g = g f parts.1

-- so what follows a text that is like one of some words begins as they do, where they all begin with a character whose folding is in the set
pub like_begins : (p : ℕ → Bool) (name word rest : List ℕ) → is_like name word ≡ true → begins (λ c. p (simple_fold c)) word ≡ true →
    begins (λ c. p (simple_fold c)) (name ++ rest) ≡ true
like_begins p name word rest like first = begins_of_front (λ c. p (simple_fold c)) name rest (begins-folded p name word like ∙ first)

pub any_like_begins : (p : ℕ → Bool) (name : List ℕ) (words : List (List ℕ)) (rest : List ℕ) → list_any (is_like name) words ≡ true →
    list_all (begins (λ c. p (simple_fold c))) words ≡ true → begins (λ c. p (simple_fold c)) (name ++ rest) ≡ true
any_like_begins p name words rest any all =
    let one = like_one (begins (λ c. p (simple_fold c))) name words any all in like_begins p name one.word rest one.like one.holds
