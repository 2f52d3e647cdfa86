-- A text is asked for the words alone that begin as it does, and for the front that these have once.
use Rattle.std.proofs.Common.{◌≡◌, ℕ, ◌==◌, ◌||◌, not, Bool, true, false, List, [], ◌∷◌, ◌++◌, Option, None, Some, eqb-true, refl, ap, ap₂, sym, subst, ◌∙◌, true≢false}
use Rattle.std.proofs.lemmas.Bool.{and_parts, cond-true, false_from_ne_true}
use Rattle.std.specs.List.{list_all}
use Rattle.std.specs.Option.{option_map_or}
use Rattle.ucd_case.proofs.Computing.{ucd_case}
use Rattle.phone_chars.specs.Characters.{is_one_of}
use Rattle.phone_parts.specs.Texts.{begins}
use Rattle.phone_library_text.specs.Announcements.{signs, words}
use Rattle.phone_library_text.specs.Letters.{folded}
use Rattle.phone_library_text.specs.Scans.{after_alike, all_behind, begun_by, follows, follows_some, is_nil}

-- the foldings that words begin with, and those that signs begin with
abbrev pub word_starts : List ℕ
word_starts = 120 ∷ 101 ∷ 0xFF58 ∷ 0xFF45 ∷ 0x434 ∷ 97 ∷ []

abbrev pub sign_starts : List ℕ
sign_starts = 120 ∷ 0xFF58 ∷ 35 ∷ 0xFF03 ∷ 126 ∷ 0xFF5E ∷ 105 ∷ 0xFF49 ∷ []

none_begun : (starts : List ℕ) (f : ℕ) (labels : List (List ℕ)) → list_all (begins (λ w. is_one_of starts (folded w))) labels ≡ true →
    is_one_of starts f ≡ false → begun_by f labels ≡ []
none_begun starts f [] all none = refl
none_begun starts f ([] ∷ ws) all none = absurd (true≢false (sym all))
none_begun starts f ((x ∷ xs) ∷ ws) all none =
    let parts = and_parts (is_one_of starts (folded x)) (list_all (begins (λ w. is_one_of starts (folded w))) ws) all in
    let other : (f == folded x) ≡ false =
    false_from_ne_true (f == folded x) (λ e. true≢false (sym parts.0 ∙ ap (is_one_of starts) (sym (eqb-true f (folded x) e)) ∙ none)) in
    rw other (none_begun starts f ws parts.1 none)

words_begin : list_all (begins (λ w. is_one_of word_starts (folded w))) words ≡ true
unfolding ucd_case
words_begin = refl

signs_begin : list_all (begins (λ w. is_one_of sign_starts (folded w))) signs ≡ true
unfolding ucd_case
signs_begin = refl

pub no_word_begun : (f : ℕ) → is_one_of word_starts f ≡ false → begun_by f words ≡ []
no_word_begun f none = none_begun word_starts f words words_begin none

pub no_sign_begun : (f : ℕ) → is_one_of sign_starts f ≡ false → begun_by f signs ≡ []
no_sign_begun f none = none_begun sign_starts f signs signs_begin none

-- only a word that begins as the text does can follow
begun_follow : (c : ℕ) (cs : List ℕ) (labels : List (List ℕ)) → list_all (λ w. not (is_nil w)) labels ≡ true →
    follows_some (begun_by (folded c) labels) (c ∷ cs) ≡ follows_some labels (c ∷ cs)
begun_follow c cs [] all = refl
begun_follow c cs ([] ∷ ws) all = absurd (true≢false (sym all))
begun_follow c cs ((x ∷ xs) ∷ ws) all = at (folded c == folded x) refl (begun_follow c cs ws all)
  where
    at : (b : Bool) → (folded c == folded x) ≡ b → follows_some (begun_by (folded c) ws) (c ∷ cs) ≡ follows_some ws (c ∷ cs) →
        follows_some (begun_by (folded c) ((x ∷ xs) ∷ ws)) (c ∷ cs) ≡ follows_some ((x ∷ xs) ∷ ws) (c ∷ cs)
    at true e h =
        ap (λ kept. follows_some kept (c ∷ cs)) (cond-true _ ((x ∷ xs) ∷ begun_by (folded c) ws) (begun_by (folded c) ws) e)
        ∙ ap (λ b. follows (c ∷ cs) (x ∷ xs) || b) h
    at false e h = rw e h

by_first : (f : ℕ) (t : List ℕ) (labels : List (List ℕ)) → list_all (λ w. not (is_nil w)) labels ≡ true → begins (λ c. folded c == f) t ≡ true →
    follows_some (begun_by f labels) t ≡ follows_some labels t
by_first f [] labels all b = absurd (true≢false (sym b))
by_first f (c ∷ cs) labels all b =
    subst (λ g. follows_some (begun_by g labels) (c ∷ cs) ≡ follows_some labels (c ∷ cs)) (eqb-true (folded c) f b) (begun_follow c cs labels all)

pub word_by_first : (f : ℕ) (t : List ℕ) → begins (λ c. folded c == f) t ≡ true → follows_some (begun_by f words) t ≡ follows_some words t
word_by_first f t b = by_first f t words refl b

pub sign_by_first : (f : ℕ) (t : List ℕ) → begins (λ c. folded c == f) t ≡ true → follows_some (begun_by f signs) t ≡ follows_some signs t
sign_by_first f t b = by_first f t signs refl b

-- a word is met where its front is, and its end behind that
one_behind : (text front end : List ℕ) → follows text (front ++ end) ≡ option_map_or (λ rest. follows rest end) (after_alike text front) false
one_behind text [] end = refl
one_behind [] (w ∷ ws) end = refl
one_behind (c ∷ cs) (w ∷ ws) end = at (folded c == folded w) refl (one_behind cs ws end)
  where
    at : (b : Bool) → (folded c == folded w) ≡ b → follows cs (ws ++ end) ≡ option_map_or (λ rest. follows rest end) (after_alike cs ws) false →
        follows (c ∷ cs) ((w ∷ ws) ++ end) ≡ option_map_or (λ rest. follows rest end) (after_alike (c ∷ cs) (w ∷ ws)) false
    at true e h = rw e h
    at false e h = rw e refl

pub some_behind : (text front : List ℕ) (ends : List (List ℕ)) → follows_some (all_behind front ends) text ≡ option_map_or (follows_some ends) (after_alike text front) false
some_behind text front [] = none (after_alike text front)
  where
    none : (o : Option (List ℕ)) → false ≡ option_map_or (follows_some []) o false
    none None = refl
    none (Some rest) = refl
some_behind text front (end ∷ ends) =
    ap₂ (λ a b. a || b) (one_behind text front end) (some_behind text front ends) ∙ join (after_alike text front)
  where
    join : (o : Option (List ℕ)) → (option_map_or (λ rest. follows rest end) o false || option_map_or (follows_some ends) o false) ≡ option_map_or (follows_some (end ∷ ends)) o false
    join None = refl
    join (Some rest) = refl
