-- The core of a text is one, and what makes a text's front its core.
use Rattle.std.proofs.Common.{take, IsUtf8, encode_utf8_all, ◌≡◌, ◌⊎◌, inl, inr, ⊎_elim, ℕ, zero, suc, ◌==◌, ◌<◌, ◌≤◌, Bool, true, false, not, ◌||◌, List, [], ◌∷◌, ◌++◌, length, drop, refl, ap, sym, subst, ◌∙◌, arith, length-append, append-nil, true≢false}
use Rattle.std.proofs.lemmas.Bool.{cases_lt, and_parts, and_right, not-true, not-false, or_parts, or_right}
use Rattle.std.proofs.lemmas.List.{nil_from_length}
use Rattle.std.proofs.lemmas.Str.{encodes-chars}
use Rattle.std.specs.Str.{chars}
use Rattle.std.proofs.lemmas.List.Folds.{list_any-append}
use Rattle.std.proofs.Math.Seq.{drop-append_seam, take-append_seam}
use Rattle.std.specs.List.{list_any, list_all}
use Rattle.phone_chars.proofs.Trims.{IsWithoutEnd}
use Rattle.phone_chars.specs.Characters.{is_one_of}
use Rattle.phone_chars.specs.Cuts.{after_front}
use Rattle.phone_parts.specs.Cores.{IsCore, IsTrimmed, IsBeforeSecondNumber, is_start, is_last, begins_second_number}
use Rattle.phone_parts.specs.Texts.{begins, ends}

-- a text that ends in a member has one
any_from_ends : (p : ℕ → Bool) (xs : List ℕ) → ends p xs ≡ true → list_any p xs ≡ true
any_from_ends p [] h = absurd (true≢false (sym h))
any_from_ends p (x ∷ []) h = ap (λ b. b || false) h
any_from_ends p (x ∷ y ∷ xs) h = or_right (p x) _ (any_from_ends p (y ∷ xs) h)

pub ends-push : (p : ℕ → Bool) (xs : List ℕ) (x : ℕ) → ends p (xs ++ x ∷ []) ≡ p x
ends-push p [] x = refl
ends-push p (y ∷ []) x = refl
ends-push p (y ∷ z ∷ ys) x = ends-push p (z ∷ ys) x

-- a text's part from the first passing character on is what follows its front of others
pub after_front_others : (p : ℕ → Bool) (before from : List ℕ) → list_any p before ≡ false → begins p from ≡ true →
    after_front (λ c. not (p c)) (before ++ from) ≡ from
after_front_others p [] [] none first = refl
after_front_others p [] (y ∷ from) none first = rw first
after_front_others p (x ∷ before) from none first =
    let parts = or_parts (p x) (list_any p before) none in
    rw parts.0 (after_front_others p before from parts.1 first)

-- and the other way round
pub record IsFromFirst (p : ℕ → Bool) (text from : List ℕ) : Type 0 where
  pub before : List ℕ
  pub whole : text ≡ before ++ from
  pub none : list_any p before ≡ false
  pub first : (from ≡ []) ⊎ (begins p from ≡ true)

pub from_first : (p : ℕ → Bool) (text : List ℕ) → IsFromFirst p text (after_front (λ c. not (p c)) text)
from_first p [] = record { before = []; whole = refl; none = refl; first = inl refl }
from_first p (x ∷ xs) = at_head (p x) refl (from_first p xs)
  where
    at_head : (b : Bool) → p x ≡ b → IsFromFirst p xs (after_front (λ c. not (p c)) xs) → IsFromFirst p (x ∷ xs) (after_front (λ c. not (p c)) (x ∷ xs))
    at_head true e h = rw e (record { before = []; whole = refl; none = refl; first = inr e })
    at_head false e h = rw e (record { before = x ∷ h.before; whole = ap (λ t. x ∷ t) h.whole; none = rw e h.none; first = h.first })

kept_tail : (p : ℕ → Bool) (x : ℕ) (xs : List ℕ) → (x ∷ xs ≡ []) ⊎ (ends p (x ∷ xs) ≡ true) → (xs ≡ []) ⊎ (ends p xs ≡ true)
kept_tail p x [] h = inl refl
kept_tail p x (y ∷ xs) (inl e) = absurd (cc)
kept_tail p x (y ∷ xs) (inr e) = inr e

-- what is kept is not longer than another's kept part, unless a passing character stands behind that
no_passing_end : (p : ℕ → Bool) (x : ℕ) (kept trailing others : List ℕ) → others ≡ (x ∷ kept) ++ trailing → list_any p others ≡ false →
    ¬ ((x ∷ kept ≡ []) ⊎ (ends p (x ∷ kept) ≡ true))
no_passing_end p x kept trailing others e none (inl h) = cc
no_passing_end p x kept trailing others e none (inr h) =
    true≢false (sym (ap (λ b. b || list_any p trailing) (any_from_ends p (x ∷ kept) h)) ∙ sym (list_any-append p (x ∷ kept) trailing) ∙ ap (list_any p) (sym e) ∙ none)

-- two texts are one where only their longest ends without passing characters differ
pub kept_same : (p : ℕ → Bool) (a b s t : List ℕ) → a ++ s ≡ b ++ t → list_any p s ≡ false → list_any p t ≡ false →
    (a ≡ []) ⊎ (ends p a ≡ true) → (b ≡ []) ⊎ (ends p b ≡ true) → a ≡ b
kept_same p [] [] s t e ns nt ea eb = refl
kept_same p [] (y ∷ b) s t e ns nt ea eb = absurd (no_passing_end p y b t s e ns eb)
kept_same p (x ∷ a) [] s t e ns nt ea eb = absurd (no_passing_end p x a s t (sym e) nt ea)
kept_same p (x ∷ a) (y ∷ b) s t e ns nt ea eb =
    let heads : x ≡ y = cc in
    let tails : a ++ s ≡ b ++ t = cc in
    let same = kept_same p a b s t tails ns nt (kept_tail p x a ea) (kept_tail p y b eb) in
    cc

pub trimmed_same : (text a b : List ℕ) → IsTrimmed text a → IsTrimmed text b → a ≡ b
trimmed_same text a b g h = kept_same is_last a b g.trailing h.trailing (sym g.whole ∙ h.whole) g.no_last h.no_last g.trimmed h.trimmed

-- where all fail a test none passes it
none_passes : (p : ℕ → Bool) (xs : List ℕ) → list_all (λ x. not (p x)) xs ≡ true → list_any p xs ≡ false
none_passes p [] h = refl
none_passes p (x ∷ xs) h =
    let parts = and_parts (not (p x)) (list_all (λ y. not (p y)) xs) h in
    rw (not-true (p x) parts.0) (none_passes p xs parts.1)

-- a text without its longest end of characters in which no number ends is trimmed
pub trimmed_without_end : (text kept : List ℕ) → IsWithoutEnd (λ c. not (is_last c)) text kept → IsTrimmed (chars text) (chars kept)
trimmed_without_end text kept h = record {
  trailing = h.trailing;
  whole = h.whole;
  no_last = none_passes is_last h.trailing h.members;
  trimmed = ⊎_elim inl (λ l. inr (ap (ends is_last) l.2 ∙ ends-push is_last l.0 l.1 ∙ not-false (is_last l.1) l.3)) h.last;
}

-- of two parts before the first mark none is the shorter
not_shorter : (text a b : List ℕ) → IsBeforeSecondNumber text a → IsBeforeSecondNumber text b → ¬ (length a < length b)
not_shorter text a b g h less =
    let after : drop (length a) text ≡ g.after = ap (drop (length a)) g.whole ∙ drop-append_seam a g.after in
    let none : begins_second_number g.after ≡ false = ap begins_second_number (sym after) ∙ h.earliest (length a) less in
    ⊎_elim
    (λ (e : g.after ≡ []). absurd (omega (arith, length-append a g.after, length-append b h.after, ap length g.whole, ap length h.whole, ap length e)))
    (λ e. true≢false (sym e ∙ none))
    g.ended

pub first_number_same : (text a b : List ℕ) → IsBeforeSecondNumber text a → IsBeforeSecondNumber text b → a ≡ b
first_number_same text a b g h =
    let no_less = not_shorter text a b g h in
    let no_more = not_shorter text b a h g in
    let same : length a ≡ length b = at (cases_lt (length a) (length b)) (cases_lt (length b) (length a)) in
    sym (ap (take (length a)) g.whole ∙ take-append_seam a g.after) ∙ ap (λ n. take n text) same ∙ ap (take (length b)) h.whole ∙ take-append_seam b h.after
  where
    at : (length a < length b) ⊎ (length b ≤ length a) → (length b < length a) ⊎ (length a ≤ length b) → length a ≡ length b
    at (inl l) _ = absurd (not_shorter text a b g h l)
    at (inr l) (inl m) = absurd (not_shorter text b a h g m)
    at (inr l) (inr m) = omega arith

-- the cuts of a core are those of the text
pub core_same : (text core kept first : List ℕ) → IsCore text core →
    IsTrimmed (after_front (λ c. not (is_start c)) text) kept → IsBeforeSecondNumber kept first → core ≡ first
core_same text core kept first h trimmed before =
    let from : h.from ≡ after_front (λ c. not (is_start c)) text =
    sym (ap (after_front (λ c. not (is_start c))) h.whole ∙ after_front_others is_start h.before h.from h.no_start h.starts) in
    let same : h.kept ≡ kept = trimmed_same h.from h.kept kept h.trimmed (subst (λ t. IsTrimmed t kept) (sym from) trimmed) in
    first_number_same h.kept core first h.first (subst (λ t. IsBeforeSecondNumber t first) (sym same) before)

-- a text has one core
pub core_unique : (text a b : List ℕ) → IsCore text a → IsCore text b → a ≡ b
core_unique text a b g h =
    let from : g.from ≡ after_front (λ c. not (is_start c)) text =
    sym (ap (after_front (λ c. not (is_start c))) g.whole ∙ after_front_others is_start g.before g.from g.no_start g.starts) in
    sym (core_same text b g.kept a h (subst (λ t. IsTrimmed t g.kept) from g.trimmed) g.first)

-- a text in which no second number begins is all before one
pub undivided : (text : List ℕ) → ((k : ℕ) → k < length text → begins_second_number (drop k text) ≡ false) → IsBeforeSecondNumber text text
undivided text none = record { after = []; whole = sym (append-nil text); ended = inl refl; earliest = none }

-- a core: what stands before the first start is cut, and what stands behind the last character in which a number may end, and the rest from a second number on
pub core_of : (before kept trailing core : List ℕ) → list_any is_start before ≡ false → begins is_start (kept ++ trailing) ≡ true → ends is_last kept ≡ true →
    list_any is_last trailing ≡ false → IsBeforeSecondNumber kept core → ¬ (core ≡ []) → IsCore (before ++ (kept ++ trailing)) core
core_of before kept trailing core no_start starts last none first some = record {
  before = before;
  from = kept ++ trailing;
  kept = kept;
  whole = refl;
  no_start = no_start;
  starts = starts;
  trimmed = record { trailing = trailing; whole = refl; no_last = none; trimmed = inr last };
  first = first;
  not_empty = some;
}

-- a text from its start on, up to the last character in which a number may end, is the core if it is all before a second number
pub kept_core : (kept trailing : List ℕ) → begins is_start (kept ++ trailing) ≡ true → ends is_last kept ≡ true → list_any is_last trailing ≡ false →
    IsBeforeSecondNumber kept kept → IsCore (kept ++ trailing) kept
kept_core kept trailing starts last none first =
    core_of [] kept trailing kept refl starts last none first (λ e. true≢false (sym last ∙ ap (ends is_last) e))

-- so a text behind which nothing is cut off is its own core
pub whole_core : (text : List ℕ) → begins is_start text ≡ true → ends is_last text ≡ true → IsBeforeSecondNumber text text → IsCore text text
whole_core text starts last first =
    subst (λ t. IsCore t text) (append-nil text) (kept_core text [] (ap (begins is_start) (append-nil text) ∙ starts) last refl first)

-- nothing is left of nothing
pub nil_trimmed : (text kept : List ℕ) → text ≡ [] → IsTrimmed text kept → kept ≡ []
nil_trimmed text kept e h = nil_front kept h.trailing (sym e ∙ h.whole)
  where
    nil_front : (a b : List ℕ) → [] ≡ a ++ b → a ≡ []
    nil_front [] b e = refl
    nil_front (x ∷ a) b e = absurd (cc)

pub nil_first_number : (text first : List ℕ) → text ≡ [] → IsBeforeSecondNumber text first → first ≡ []
nil_first_number text first e h = nil_from_length first (omega (arith, length-append first h.after, ap length h.whole, ap length e))

pub nil_from_chars : (bs : List ℕ) → IsUtf8 bs → chars bs ≡ [] → bs ≡ []
nil_from_chars bs u e = sym (encodes-chars bs u) ∙ ap encode_utf8_all e

-- without a small x no second number begins
no_x_behind : (cs : List ℕ) → list_any (λ d. d == 120) cs ≡ false → begins (λ d. d == 120) (after_front (λ d. d == 32) cs) ≡ false
no_x_behind [] none = refl
no_x_behind (c ∷ cs) none =
    let parts = or_parts (c == 120) (list_any (λ d. d == 120) cs) none in
    at_head (c == 32) refl parts.0 (no_x_behind cs parts.1)
  where
    at_head : (b : Bool) → (c == 32) ≡ b → (c == 120) ≡ false → begins (λ d. d == 120) (after_front (λ d. d == 32) cs) ≡ false →
        begins (λ d. d == 120) (after_front (λ d. d == 32) (c ∷ cs)) ≡ false
    at_head true e first rest = rw e rest
    at_head false e first rest = rw e first

none_begins : (cs : List ℕ) → list_any (λ d. d == 120) cs ≡ false → begins_second_number cs ≡ false
none_begins [] none = refl
none_begins (c ∷ cs) none = and_right (is_one_of (47 ∷ 92 ∷ []) c) _ (no_x_behind cs (or_parts (c == 120) (list_any (λ d. d == 120) cs) none).1)

pub no_second_number : (cs : List ℕ) (k : ℕ) → list_any (λ d. d == 120) cs ≡ false → begins_second_number (drop k cs) ≡ false
no_second_number cs zero none = none_begins cs none
no_second_number [] (suc k) none = refl
no_second_number (c ∷ cs) (suc k) none = no_second_number cs k (or_parts (c == 120) (list_any (λ d. d == 120) cs) none).1
