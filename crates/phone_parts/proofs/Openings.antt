-- Which characters every extension has: without them a text has none.
use Rattle.std.proofs.Common.{◌≡◌, ℕ, Bool, true, false, ◌||◌, zero, suc, List, [], ◌∷◌, ◌++◌, drop, codes, refl, ap, sym, ◌∙◌, true≢false}
use Rattle.std.proofs.lemmas.Bool.{or_left, or_parts, or_right}
use Rattle.std.proofs.lemmas.List.Folds.{list_any-append}
use Rattle.std.specs.List.{list_any, list_all}
use Rattle.ucd_case.proofs.Computing.{ucd_case}
use Rattle.ucd_case.specs.CaseFolding.{simple_fold}
use Rattle.phone_chars.specs.Characters.{is_one_of}
use Rattle.phone_parts.specs.Suffixes.{IsAnnounced, IsParameter, IsSuffix, HasNoSuffix, indicators}
use Rattle.phone_parts.specs.declared.suffix.Form.{Form}
use Rattle.phone_parts.specs.declared.suffix.Form.TheVariants.{Parameter, Indicated, NumberSign}
use Rattle.phone_parts.specs.Texts.{begins}
use Rattle.phone_parts.proofs.Foldings.{any_like_begins, like_begins}

-- what an indicator begins with: `,`, `;`, `#`, `~`, `x`, `e`, `i`, `a`, and the fullwidth `#`, `~`, `x`, `e`, `i`
abbrev pub openings : List ℕ
openings = 44 ∷ 59 ∷ 35 ∷ 126 ∷ 120 ∷ 101 ∷ 105 ∷ 97 ∷ 0xFF03 ∷ 0xFF5E ∷ 0xFF58 ∷ 0xFF45 ∷ 0xFF49 ∷ []

-- the character folds to one of them
abbrev pub is_opening : ℕ → Bool
is_opening c = is_one_of openings (simple_fold c)

pub indicators_open : list_all (begins is_opening) indicators ≡ true
unfolding ucd_case
indicators_open = refl

ext_opens : begins is_opening (codes ";ext=") ≡ true
unfolding ucd_case
ext_opens = refl

sign_opens : is_opening 35 ≡ true
unfolding ucd_case
sign_opens = refl

-- a text has such a character where its end has one
any_after : (p : ℕ → Bool) (xs ys : List ℕ) → list_any p ys ≡ true → list_any p (xs ++ ys) ≡ true
any_after p xs ys h = list_any-append p xs ys ∙ or_right (list_any p xs) (list_any p ys) h

-- a text that begins with such a character has one
any_at_front : (p : ℕ → Bool) (xs : List ℕ) → begins p xs ≡ true → list_any p xs ≡ true
any_at_front p [] h = absurd (true≢false (sym h))
any_at_front p (x ∷ xs) h = or_left (p x) (list_any p xs) h

pub announced_opens : (w d : List ℕ) → IsAnnounced indicators w d → begins is_opening w ≡ true
announced_opens w d h =
    ap (begins is_opening) h.whole ∙ any_like_begins (is_one_of openings) h.word indicators h.ending h.announces indicators_open

pub parameter_opens : (w d : List ℕ) → IsParameter w d → begins is_opening w ≡ true
parameter_opens w d h = ap (begins is_opening) h.whole ∙ like_begins (is_one_of openings) h.name (codes ";ext=") d h.named ext_opens

-- every extension has one
pub suffix_opens : (w : List ℕ) (f : Form) (d : List ℕ) → IsSuffix w f d → list_any is_opening w ≡ true
suffix_opens w Parameter d h = any_at_front is_opening w (parameter_opens w d h)
suffix_opens w Indicated d h =
    ap (list_any is_opening) h.whole ∙ any_after is_opening h.lead h.rest (any_at_front is_opening h.rest (announced_opens h.rest d h.announced))
suffix_opens w NumberSign d h =
    ap (list_any is_opening) h.whole ∙ any_after is_opening h.lead _ (any_after is_opening d (35 ∷ []) (ap (λ b. b || false) sign_opens))

-- what no character of a text is, none of an end of it is
none_in_end : (p : ℕ → Bool) (k : ℕ) (text : List ℕ) → list_any p text ≡ false → list_any p (drop k text) ≡ false
none_in_end p zero text h = h
none_in_end p (suc k) [] h = refl
none_in_end p (suc k) (c ∷ cs) h = none_in_end p k cs (or_parts (p c) (list_any p cs) h).1

-- so a text without them has no extension
pub no_suffix : (c : List ℕ) → list_any is_opening c ≡ false → HasNoSuffix c
no_suffix c none k f d h = true≢false (sym (suffix_opens (drop k c) f d h) ∙ none_in_end is_opening k c none)
