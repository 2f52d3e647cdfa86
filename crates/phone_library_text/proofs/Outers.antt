-- What announces an extension ends in no digit and no plus sign.
use Rattle.std.proofs.Common.{◌≡◌, ⊎_elim, ℕ, Bool, true, false, not, ◌==◌, ◌||◌, List, [], ◌∷◌, ◌++◌, length, map, codes, refl, ap, sym, ◌∙◌, true≢false, eqb-true, arith}
use Rattle.std.proofs.lemmas.Bool.{and_from, and_parts, cond-false, false_from_ne_true, not-true, or_cases, or_left}
use Rattle.std.proofs.lemmas.List.Folds.{list_all-append}
use Rattle.std.proofs.lemmas.Slice.Eq.{bytes_eq-Decides}
use Rattle.std.specs.List.{list_all, list_any}
use Rattle.ucd_case.proofs.Computing.{ucd_case}
use Rattle.ucd_category.proofs.Computing.{ucd_category}
use Rattle.phone_chars.specs.Characters.{is_nd, is_one_of}
use Rattle.phone_parts.specs.Suffixes.{is_dash, is_gap, is_lead, is_mark}
use Rattle.phone_parts.specs.Texts.{ends}
use Rattle.phone_parts.proofs.Endings.{AreApart, apart_members, member_passes}
use Rattle.phone_parts.proofs.Ends.{all_wider, ends-append, ends-append_run, ends-not, ends_wider}
use Rattle.phone_parts.proofs.Foldings.{simple_fold-digit}
use Rattle.phone_library_text.specs.Announcements
use Rattle.phone_library_text.specs.Announcements.{Announces, IsLabelled, are_commas, is_blank, is_word_of, pauses, signs, words}
use Rattle.phone_library_text.specs.Letters.{folded, is_alike}

-- digits and the plus sign
abbrev pub is_inner : ℕ → Bool
is_inner c = is_nd c || (c == 43)

abbrev pub is_outer : ℕ → Bool
is_outer c = not (is_inner c)

-- ---- foldings

i_nd : AreApart (is_one_of (0x130 ∷ 0x131 ∷ [])) is_nd
unfolding ucd_category
i_nd = apart_members is_nd (0x130 ∷ 0x131 ∷ []) refl

plus_folded : is_inner (folded 43) ≡ true
unfolding ucd_case ucd_category
plus_folded = refl

-- they fold to themselves
folded_inner : (c : ℕ) → is_inner c ≡ true → is_inner (folded c) ≡ true
folded_inner c h = ⊎_elim
    (λ (digit : is_nd c ≡ true). or_left (is_nd (folded c)) (folded c == 43)
    (ap is_nd (cond-false _ _ _ (i_nd c digit) ∙ simple_fold-digit c digit) ∙ digit))
    (λ (plus : (c == 43) ≡ true). ap (λ x. is_inner (folded x)) (eqb-true c 43 plus) ∙ plus_folded)
    (or_cases (is_nd c) (c == 43) h)

ends-map : (p : ℕ → Bool) (f : ℕ → ℕ) (xs : List ℕ) → ends p (map f xs) ≡ ends (λ c. p (f c)) xs
ends-map p f [] = refl
ends-map p f (x ∷ []) = refl
ends-map p f (x ∷ y ∷ xs) = ends-map p f (y ∷ xs)

-- so a text that is alike a word ends in none, where the word's last folding is none
alike_ends : (name word : List ℕ) → is_alike name word ≡ true → ends (λ c. is_inner (folded c)) word ≡ false → ends is_inner name ≡ false
alike_ends name word alike none =
    let same : map folded name ≡ map folded word = (bytes_eq-Decides (map folded name) (map folded word)).0 alike in
    false_from_ne_true (ends is_inner name) (λ e. true≢false
    (sym (ends_wider is_inner (λ c. is_inner (folded c)) folded_inner name e) ∙ sym (ends-map is_inner folded name) ∙ ap (ends is_inner) same
    ∙ ends-map is_inner folded word ∙ none))

-- ---- labels

-- one of some texts passes a test, and all pass another
record IsOneWith (p q : List ℕ → Bool) : Type 0 where
  pub word : List ℕ
  pub passes : p word ≡ true
  pub holds : q word ≡ true

one_with : (p q : List ℕ → Bool) (ws : List (List ℕ)) → list_any p ws ≡ true → list_all q ws ≡ true → IsOneWith p q
one_with p q [] h all = absurd (true≢false (sym h))
one_with p q (w ∷ ws) h all =
    let parts = and_parts (q w) (list_all q ws) all in
    ⊎_elim (λ (e : p w ≡ true). record { word = w; passes = e; holds = parts.0 }) (λ (e : list_any p ws ≡ true). one_with p q ws e parts.1) (or_cases (p w) (list_any p ws) h)

abbrev is_closed : List ℕ → Bool
is_closed w = not (ends (λ c. is_inner (folded c)) w)

words_closed : list_all is_closed words ≡ true
unfolding ucd_case ucd_category
words_closed = refl

signs_closed : list_all is_closed signs ≡ true
unfolding ucd_case ucd_category
signs_closed = refl

no_empty_word : is_word_of words [] ≡ false
no_empty_word = refl

no_empty_sign : is_word_of signs [] ≡ false
no_empty_sign = refl

word_ends : (ws : List (List ℕ)) → list_all is_closed ws ≡ true → is_word_of ws [] ≡ false → (l : List ℕ) → is_word_of ws l ≡ true → ends is_outer l ≡ true
word_ends ws closed none l h =
    let one = one_with (is_alike l) is_closed ws h closed in
    ends-not is_inner l (λ e. true≢false (sym h ∙ ap (is_word_of ws) e ∙ none)) (alike_ends l one.word one.passes (not-true _ one.holds))

pauses_closed : list_all is_closed pauses ≡ true
unfolding ucd_case ucd_category
pauses_closed = refl

no_empty_pause : is_word_of pauses [] ≡ false
no_empty_pause = refl

-- what is made of members alone ends in one
pub ends_all : (p : ℕ → Bool) (xs : List ℕ) → ¬ (xs ≡ []) → list_all p xs ≡ true → ends p xs ≡ true
ends_all p [] some all = absurd (some refl)
ends_all p (x ∷ []) some all = (and_parts (p x) true all).0
ends_all p (x ∷ y ∷ xs) some all = ends_all p (y ∷ xs) (λ e. cc) (and_parts (p x) (list_all p (y ∷ xs)) all).1

outer_comma : is_outer 44 ≡ true
unfolding ucd_category
outer_comma = refl

comma_ends : (l : List ℕ) → are_commas l ≡ true → ends is_outer l ≡ true
comma_ends l h =
    let parts = and_parts (not (length l == 0)) (list_all (λ c. c == 44) l) h in
    ends_all is_outer l (λ e. true≢false (sym parts.0 ∙ ap (λ t. not (length t == 0)) e))
    (all_wider (λ c. c == 44) is_outer (λ c e. ap is_outer (eqb-true c 44 e) ∙ outer_comma) l parts.1)

outer_mark : (c : ℕ) → is_mark c ≡ true → is_outer c ≡ true
unfolding ucd_category
outer_mark c = member_passes is_outer (58 ∷ 46 ∷ 0xFF0E ∷ []) c refl

outer_gap : (c : ℕ) → is_gap c ≡ true → is_outer c ≡ true
unfolding ucd_category
outer_gap c = member_passes is_outer (32 ∷ 0xA0 ∷ 9 ∷ 44 ∷ 45 ∷ []) c refl

outer_dash : (c : ℕ) → is_dash c ≡ true → is_outer c ≡ true
unfolding ucd_category
outer_dash c = member_passes is_outer (45 ∷ 32 ∷ []) c refl

-- a label with what stands around it
labelled_ends : (leads : ℕ → Bool) (labels : List ℕ → Bool) → ((l : List ℕ) → labels l ≡ true → ends is_outer l ≡ true) →
    (t : List ℕ) → IsLabelled leads labels t → ends is_outer t ≡ true
labelled_ends leads labels told t h =
    let after : list_all is_outer (h.mark ++ h.gap) ≡ true =
    list_all-append is_outer h.mark h.gap
    ∙ and_from _ _ (all_wider is_mark is_outer outer_mark h.mark h.marks.only) (all_wider is_gap is_outer outer_gap h.gap h.gaps) in
    let last : ends is_outer (h.label ++ (h.mark ++ h.gap)) ≡ true = ends-append_run is_outer h.label (h.mark ++ h.gap) (told h.label h.labels) after in
    ap (ends is_outer) h.whole ∙ ends-append is_outer h.lead (h.label ++ (h.mark ++ h.gap)) (λ e. true≢false (sym last ∙ ap (ends is_outer) e)) ∙ last

parameter_closed : is_closed (codes ";ext=") ≡ true
unfolding ucd_case ucd_category
parameter_closed = refl

no_empty_parameter : is_alike [] (codes ";ext=") ≡ false
no_empty_parameter = refl

-- ---- an announcement ends in no digit and no plus sign
pub announced_ends : (t : List ℕ) (n : ℕ) (signed : Bool) → Announces t n signed → ends is_outer t ≡ true
announced_ends t n signed (Announcements.by_parameter alike few unsigned) =
    ends-not is_inner t (λ e. true≢false (sym alike ∙ ap (λ x. is_alike x (codes ";ext=")) e ∙ no_empty_parameter))
    (alike_ends t (codes ";ext=") alike (not-true _ parameter_closed))
announced_ends t n signed (Announcements.by_word h few) = labelled_ends is_lead (is_word_of words) (word_ends words words_closed no_empty_word) t h
announced_ends t n signed (Announcements.by_sign h few) = labelled_ends is_lead (is_word_of signs) (word_ends signs signs_closed no_empty_sign) t h
announced_ends t n signed (Announcements.by_dashes all some few is_signed) =
    ends_all is_outer t (λ e. absurd (omega (arith, some, ap length e))) (all_wider is_dash is_outer outer_dash t all)
announced_ends t n signed (Announcements.by_pause h few) = labelled_ends is_blank (is_word_of pauses) (word_ends pauses pauses_closed no_empty_pause) t h
announced_ends t n signed (Announcements.by_commas h few) = labelled_ends is_blank are_commas comma_ends t h
