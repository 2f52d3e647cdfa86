-- Texts that are alike a word, and that no digit stands in them where none stands in the word.
use Rattle.std.proofs.Common.{◌≡◌, ◌<◌, slice_index_or, ⊎_elim, ℕ, ◌==◌, Bool, true, false, cond, not, ◌||◌, List, [], ◌∷◌, ◌++◌, Some, None, codes, eqb-true, refl, ap, sym, ◌∙◌, true≢false}
use Rattle.std.proofs.lemmas.Bool.{and_left, and_parts, cases_Bool, cond-false, false_from_ne_true, not-true, or_parts, or_from}
use Rattle.std.specs.Char.{to_ascii_lowercase}
use Rattle.std.specs.List.{list_any, list_all}
use Rattle.std.specs.Option.{option_map_or}
use Rattle.ucd_category.proofs.Computing.{ucd_category}
use Rattle.ucd_case.proofs.Computing.{ucd_case}
use Rattle.ucd_case.proofs.CaseFoldingLemmas.{simple_folding_stepped}
use Rattle.ucd_case.specs.CaseFolding.{simple_fold, simple_folding}
use Rattle.ucd_table.proofs.Facts.{Stepped-below}
use Rattle.phone_chars.specs.Characters.{is_nd, is_one_of}
use Rattle.phone_parts.proofs.Endings.{members_apart}
use Rattle.phone_parts.proofs.Foldings as port
use Rattle.phone_library_text.specs.Announcements.{pauses, signs, words}
use Rattle.phone_library_text.specs.Letters.{folded, is_alike}
use Rattle.phone_library_text.specs.Scans.{after_alike, is_nil}

-- what follows a front that is alike the word
pub after_alike_front : (name word rest : List ℕ) → is_alike name word ≡ true → after_alike (name ++ rest) word ≡ Some rest
after_alike_front [] [] rest h = refl
after_alike_front [] (w ∷ ws) rest h = absurd (true≢false (sym h))
after_alike_front (c ∷ cs) [] rest h = absurd (true≢false (sym h))
after_alike_front (c ∷ cs) (w ∷ ws) rest h =
    let parts = and_parts (folded c == folded w) (is_alike cs ws) h in
    rw parts.0 (after_alike_front cs ws rest parts.1)

pub record IsAfterAlike (text word rest : List ℕ) : Type 0 where
  pub name : List ℕ
  pub whole : text ≡ name ++ rest
  pub alike : is_alike name word ≡ true

pub after_alike_parts : (text word rest : List ℕ) → after_alike text word ≡ Some rest → IsAfterAlike text word rest
after_alike_parts text [] rest e = let same : text ≡ rest = cc in record { name = []; whole = same; alike = refl }
after_alike_parts [] (w ∷ ws) rest e = absurd (cc)
after_alike_parts (c ∷ cs) (w ∷ ws) rest e = at_head (folded c == folded w) refl e (after_alike_parts cs ws rest)
  where
    at_head : (b : Bool) → (folded c == folded w) ≡ b → cond b (after_alike cs ws) None ≡ Some rest →
        (after_alike cs ws ≡ Some rest → IsAfterAlike cs ws rest) → IsAfterAlike (c ∷ cs) (w ∷ ws) rest
    at_head true f e h = let r = h e in record { name = c ∷ r.name; whole = ap (λ t. c ∷ t) r.whole; alike = rw f r.alike }
    at_head false f e h = absurd (cc)

-- a text is alike a word where nothing follows such a front
pub is_alike-after : (text word : List ℕ) → is_alike text word ≡ option_map_or is_nil (after_alike text word) false
is_alike-after [] [] = refl
is_alike-after [] (w ∷ ws) = refl
is_alike-after (c ∷ cs) [] = refl
is_alike-after (c ∷ cs) (w ∷ ws) = at_head (folded c == folded w) refl (is_alike-after cs ws)
  where
    at_head : (b : Bool) → (folded c == folded w) ≡ b → is_alike cs ws ≡ option_map_or is_nil (after_alike cs ws) false →
        is_alike (c ∷ cs) (w ∷ ws) ≡ option_map_or is_nil (after_alike (c ∷ cs) (w ∷ ws)) false
    at_head true f e = rw f e
    at_head false f e = rw f refl

-- a digit folds to itself
two_letters : (c : ℕ) → is_one_of (0x130 ∷ 0x131 ∷ []) c ≡ true → is_nd c ≡ false
unfolding ucd_category
two_letters = members_apart is_nd (0x130 ∷ 0x131 ∷ []) refl

pub nd_folded : (c : ℕ) → is_nd c ≡ true → is_nd (folded c) ≡ true
nd_folded c digit =
    ⊎_elim
    (λ (two : is_one_of (0x130 ∷ 0x131 ∷ []) c ≡ true). absurd (true≢false (sym digit ∙ two_letters c two)))
    (λ (other : is_one_of (0x130 ∷ 0x131 ∷ []) c ≡ false). ap is_nd (cond-false _ 105 (simple_fold c) other) ∙ port.nd_folded c digit)
    (cases_Bool (is_one_of (0x130 ∷ 0x131 ∷ []) c))

-- a word whose foldings are no digits
abbrev pub has_no_digit : List ℕ → Bool
has_no_digit word = not (list_any (λ w. is_nd (folded w)) word)

alike_none : (name word : List ℕ) → is_alike name word ≡ true → list_any (λ w. is_nd (folded w)) word ≡ false → list_any is_nd name ≡ false
alike_none [] word h none = refl
alike_none (c ∷ cs) [] h none = absurd (true≢false (sym h))
alike_none (c ∷ cs) (w ∷ ws) h none =
    let same = and_parts (folded c == folded w) (is_alike cs ws) h in
    let parts = or_parts (is_nd (folded w)) (list_any (λ w. is_nd (folded w)) ws) none in
    let first : is_nd c ≡ false =
    false_from_ne_true (is_nd c) (λ e. true≢false (sym (nd_folded c e) ∙ ap is_nd (eqb-true (folded c) (folded w) same.0) ∙ parts.0)) in
    or_from _ _ first (alike_none cs ws same.1 parts.1)

pub alike_no_digit : (name word : List ℕ) → is_alike name word ≡ true → has_no_digit word ≡ true → list_any is_nd name ≡ false
alike_no_digit name word h none = alike_none name word h (not-true _ none)

-- of the words that a text is alike one is met, with what holds of each of them
pub record IsAlikeOne (q : List ℕ → Bool) (name : List ℕ) : Type 0 where
  pub word : List ℕ
  pub alike : is_alike name word ≡ true
  pub holds : q word ≡ true

pub alike_one : (q : List ℕ → Bool) (name : List ℕ) (words : List (List ℕ)) → list_any (is_alike name) words ≡ true → list_all q words ≡ true → IsAlikeOne q name
alike_one q name [] h all = absurd (true≢false (sym h))
alike_one q name (w ∷ ws) h all = at_head (is_alike name w) refl h (and_parts (q w) (list_all q ws) all) (alike_one q name ws)
  where
    at_head : (b : Bool) → is_alike name w ≡ b → (b || list_any (is_alike name) ws) ≡ true → (q w ≡ true) × (list_all q ws ≡ true) →
        (list_any (is_alike name) ws ≡ true → list_all q ws ≡ true → IsAlikeOne q name) → IsAlikeOne q name
    at_head true e f parts g = record { word = w; alike = e; holds = parts.0 }
    at_head false e f parts g = g f parts.1

words_none : list_all has_no_digit words ≡ true
unfolding ucd_category ucd_case
words_none = refl

signs_none : list_all has_no_digit signs ≡ true
unfolding ucd_category ucd_case
signs_none = refl

pauses_none : list_all has_no_digit pauses ≡ true
unfolding ucd_category ucd_case
pauses_none = refl

parameter_none : has_no_digit (codes ";ext=") ≡ true
unfolding ucd_category ucd_case
parameter_none = refl

some_no_digit : (words : List (List ℕ)) → list_all has_no_digit words ≡ true → (name : List ℕ) → list_any (is_alike name) words ≡ true → list_any is_nd name ≡ false
some_no_digit words all name h = let one = alike_one has_no_digit name words h all in alike_no_digit name one.word one.alike one.holds

pub word_no_digit : (name : List ℕ) → list_any (is_alike name) words ≡ true → list_any is_nd name ≡ false
word_no_digit = some_no_digit words words_none

pub sign_no_digit : (name : List ℕ) → list_any (is_alike name) signs ≡ true → list_any is_nd name ≡ false
sign_no_digit = some_no_digit signs signs_none

pub pause_no_digit : (name : List ℕ) → list_any (is_alike name) pauses ≡ true → list_any is_nd name ≡ false
pause_no_digit = some_no_digit pauses pauses_none

pub parameter_no_digit : (name : List ℕ) → is_alike name (codes ";ext=") ≡ true → list_any is_nd name ≡ false
parameter_no_digit name h = alike_no_digit name (codes ";ext=") h parameter_none

semicolon : folded 59 ≡ 59
unfolding ucd_case
semicolon = refl

-- a text that begins otherwise isn't the parameter's name
pub not_parameter : (c : ℕ) (cs : List ℕ) → (folded c == 59) ≡ false → is_alike (c ∷ cs) (codes ";ext=") ≡ false
not_parameter c cs other = and_left (folded c == folded 59) _ (ap (λ f. folded c == f) semicolon ∙ other)

-- of the characters of ASCII the capital letters fold to the small ones, and each other to itself
pub ascii_folded : (c : ℕ) → c < 128 → folded c ≡ to_ascii_lowercase c
unfolding ucd_case
ascii_folded c h =
    eqb-true _ _ (Stepped-below simple_folding simple_folding_stepped
    (λ c v. cond (is_one_of (0x130 ∷ 0x131 ∷ []) c) 105 (slice_index_or v 0 c) == to_ascii_lowercase c) 128 refl c h)
