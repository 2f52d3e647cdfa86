-- Which indicators a text may begin with, told by its first character.
use Rattle.std.proofs.Common.{◌≡◌, ℕ, ◌==◌, Bool, true, false, cond, ◌||◌, List, [], ◌∷◌, ◌++◌, eqb-true, refl, ap, sym, subst, ◌∙◌, true≢false}
use Rattle.std.proofs.lemmas.Bool.{and_parts, false_from_ne_true, or_left, or_right}
use Rattle.std.specs.List.{filter, list_any, list_all}
use Rattle.ucd_case.specs.CaseFolding.{simple_fold}
use Rattle.phone_chars.specs.Characters.{is_one_of, same_fold}
use Rattle.phone_parts.specs.Suffixes.{IsAnnounced, indicators}
use Rattle.phone_parts.specs.Texts.{begins, is_like}
use Rattle.phone_parts.proofs.Openings.{openings, is_opening, indicators_open}

-- the words that begin with a character of this folding
abbrev pub from_fold : ℕ → List (List ℕ) → List (List ℕ)
from_fold f words = filter (λ w. begins (λ x. f == simple_fold x) w) words

none_of : (f : ℕ) (words : List (List ℕ)) → is_one_of openings f ≡ false → list_all (begins is_opening) words ≡ true →
    from_fold f words ≡ []
none_of f [] none all = refl
none_of f ([] ∷ ws) none all = absurd (true≢false (sym all))
none_of f ((x ∷ xs) ∷ ws) none all =
    let parts = and_parts (is_one_of openings (simple_fold x)) (list_all (begins is_opening) ws) all in
    let other : (f == simple_fold x) ≡ false =
    false_from_ne_true (f == simple_fold x) (λ e. true≢false (sym parts.0 ∙ ap (is_one_of openings) (sym (eqb-true f (simple_fold x) e)) ∙ none)) in
    rw other (none_of f ws none parts.1)

-- with another folding none begins
pub none_from : (f : ℕ) → is_one_of openings f ≡ false → from_fold f indicators ≡ []
none_from f none = none_of f indicators none indicators_open

-- the words that begin so, by the folding itself
pub from_this : (c f : ℕ) → simple_fold c ≡ f → from_fold f indicators ≡ filter (λ w. begins (same_fold c) w) indicators
from_this c f e = ap (λ g. from_fold g indicators) (sym e)

-- a word that is kept was there
any_of_kept : (q p : List ℕ → Bool) (words : List (List ℕ)) → list_any q (filter p words) ≡ true → list_any q words ≡ true
any_of_kept q p [] h = h
any_of_kept q p (w ∷ ws) h = at (p w) (any_of_kept q p ws) h
  where
    under : (b : Bool) → (list_any q (filter p ws) ≡ true → list_any q ws ≡ true) → (b || list_any q (filter p ws)) ≡ true → (b || list_any q ws) ≡ true
    under true g e = refl
    under false g e = g e

    at : (b : Bool) → (list_any q (filter p ws) ≡ true → list_any q ws ≡ true) → list_any q (cond b (w ∷ filter p ws) (filter p ws)) ≡ true →
        (q w || list_any q ws) ≡ true
    at true g e = under (q w) g e
    at false g e = or_right _ _ (g e)

-- a word that a text is like begins as the text does
like_begins_so : (c : ℕ) (n word : List ℕ) → is_like (c ∷ n) word ≡ true → begins (same_fold c) word ≡ true
like_begins_so c n [] h = absurd (true≢false (sym h))
like_begins_so c n (w ∷ ws) h = (and_parts (same_fold c w) (is_like n ws) h).0

any_kept : (c : ℕ) (n : List ℕ) (words : List (List ℕ)) → list_any (is_like (c ∷ n)) words ≡ true →
    list_any (is_like (c ∷ n)) (filter (λ w. begins (same_fold c) w) words) ≡ true
any_kept c n [] h = h
any_kept c n (w ∷ ws) h = at (is_like (c ∷ n) w) refl h (any_kept c n ws)
  where
    rest : List (List ℕ)
    rest = filter (λ v. begins (same_fold c) v) ws

    more : (b : Bool) → list_any (is_like (c ∷ n)) rest ≡ true → list_any (is_like (c ∷ n)) (cond b (w ∷ rest) rest) ≡ true
    more true e = or_right _ _ e
    more false e = e

    at : (b : Bool) → is_like (c ∷ n) w ≡ b → (b || list_any (is_like (c ∷ n)) ws) ≡ true →
        (list_any (is_like (c ∷ n)) ws ≡ true → list_any (is_like (c ∷ n)) rest ≡ true) →
        list_any (is_like (c ∷ n)) (cond (begins (same_fold c) w) (w ∷ rest) rest) ≡ true
    at true e f g = rw (like_begins_so c n w e) (or_left _ _ e)
    at false e f g = more (begins (same_fold c) w) (g f)

-- so only these words need be tried
pub announced_from : (c : ℕ) (w cs d : List ℕ) → w ≡ c ∷ cs → IsAnnounced indicators w d → IsAnnounced (filter (λ v. begins (same_fold c) v) indicators) w d
announced_from c w cs d e h = at h.word h.whole h.announces
  where
    at : (word : List ℕ) → w ≡ word ++ h.ending → list_any (is_like word) indicators ≡ true → IsAnnounced (filter (λ v. begins (same_fold c) v) indicators) w d
    at [] f any = absurd (true≢false (sym any))
    at (x ∷ n) f any =
        let same : c ≡ x = cc in
        record {
          word = x ∷ n;
          ending = h.ending;
          whole = f;
          announces = subst (λ y. list_any (is_like (x ∷ n)) (filter (λ v. begins (same_fold y) v) indicators) ≡ true) (sym same) (any_kept x n indicators any);
          ends = h.ends;
        }

pub announced_kept : (p : List ℕ → Bool) (words : List (List ℕ)) (w d : List ℕ) → IsAnnounced (filter p words) w d → IsAnnounced words w d
announced_kept p words w d h =
    record { word = h.word; ending = h.ending; whole = h.whole; announces = any_of_kept (is_like h.word) p words h.announces; ends = h.ends }
