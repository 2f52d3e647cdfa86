-- Texts in which no announcement of an extension begins have no extension.
use Rattle.std.proofs.Common.{◌≡◌, ℕ, zero, suc, ◌==◌, ◌&&◌, nat_le, Bool, true, false, not, List}
use Rattle.std.proofs.Common.{[], ◌∷◌, ◌++◌, length, drop, codes, refl, ap, sym, subst, ◌∙◌}
use Rattle.std.proofs.Common.{eqb-true, true≢false}
use Rattle.std.proofs.lemmas.Bool.{and_left, and_parts, and_right, false_from_ne_true, not-true}
use Rattle.std.proofs.lemmas.Bool.{or_from}
use Rattle.std.proofs.lemmas.List.Folds.{list_all-append}
use Rattle.std.specs.List.{list_all}
use Rattle.ucd_case.proofs.Computing.{ucd_case}
use Rattle.phone_chars.specs.Characters.{is_one_of}
use Rattle.phone_parts.specs.Suffixes.{is_lead, is_sign}
use Rattle.phone_library_text.specs.Announcements.{is_blank}
use Rattle.phone_library_text.specs.Extensions.{HasNoExtension}
use Rattle.phone_library_text.specs.Letters.{folded, is_alike}
use Rattle.phone_library_text.specs.Scans.{allowed, announces, is_dash_run, is_led, is_named}
use Rattle.phone_library_text.specs.Scans.{is_paused, label_starts, pause_starts}
use Rattle.phone_library_text.proofs.Announced.{announces_of}
use Rattle.phone_library_text.proofs.Searches.{no_pause, not_named, nothing_named, nothing_paused}

-- no announcement begins with it, but hyphens and spaces before a number sign
abbrev pub is_silent : ℕ → Bool
is_silent c = not (is_one_of label_starts (folded c)) && not (is_one_of pause_starts (folded c))

comma_pauses : is_one_of pause_starts (folded 44) ≡ true
unfolding ucd_case
comma_pauses = refl

semicolon_pauses : is_one_of pause_starts (folded 59) ≡ true
unfolding ucd_case
semicolon_pauses = refl

sign_labels : is_silent 35 ≡ false
unfolding ucd_case
sign_labels = refl

silent_label : (c : ℕ) → is_silent c ≡ true → is_one_of label_starts (folded c) ≡ false
silent_label c h = not-true _ (and_parts _ _ h).0

silent_pause : (c : ℕ) → is_silent c ≡ true → is_one_of pause_starts (folded c) ≡ false
silent_pause c h = not-true _ (and_parts _ _ h).1

no_comma : (c : ℕ) → is_silent c ≡ true → (c == 44) ≡ false
no_comma c h = false_from_ne_true _
    (λ e. true≢false (sym comma_pauses
    ∙ ap (λ x. is_one_of pause_starts (folded x)) (sym (eqb-true c 44 e)) ∙ silent_pause c h))

no_parameter : (t : List ℕ) → list_all is_silent t ≡ true → is_alike t (codes ";ext=") ≡ false
no_parameter [] all = refl
no_parameter (c ∷ cs) all =
    let none = silent_pause c (and_parts (is_silent c) (list_all is_silent cs) all).0 in
    and_left _ _ (false_from_ne_true (folded c == folded 59)
    (λ e. true≢false (sym semicolon_pauses ∙ ap (is_one_of pause_starts) (sym (eqb-true _ _ e))
    ∙ none)))

-- what passes at no place passes behind no lead
led_none : (p : ℕ → Bool) (q : List ℕ → Bool) → q [] ≡ false →
    ((c : ℕ) (cs : List ℕ) → is_silent c ≡ true → q (c ∷ cs) ≡ false) →
    (t : List ℕ) → list_all is_silent t ≡ true → is_led p q t ≡ false
led_none p q nil none [] all = nil
led_none p q nil none (c ∷ cs) all =
    let parts = and_parts (is_silent c) (list_all is_silent cs) all in
    or_from _ _ (none c cs parts.0) (and_right (p c) _ (led_none p q nil none cs parts.1))

unnamed : (n c : ℕ) (cs : List ℕ) → is_silent c ≡ true → is_named (allowed n false) (c ∷ cs) ≡ false
unnamed n c cs h = not_named (allowed n false) c cs (silent_label c h)

unpaused : (n c : ℕ) (cs : List ℕ) → is_silent c ≡ true →
    is_paused (allowed n false) (c ∷ cs) ≡ false
unpaused n c cs h = or_from _ _ (and_right (nat_le n 15) _ (no_pause c cs (silent_pause c h)))
    (and_right (nat_le n 9) _ (and_left (c == 44) _ (no_comma c h)))

pub silent_announces : (n : ℕ) (t : List ℕ) → list_all is_silent t ≡ true →
    announces (allowed n false) t ≡ false
silent_announces n t all =
    let a = allowed n false in
    or_from _ _ (or_from _ _ (or_from _ _ (and_right _ _ (no_parameter t all))
    (led_none is_lead (is_named a) (nothing_named a) (unnamed n) t all))
    (led_none is_blank (is_paused a) (nothing_paused a) (unpaused n) t all))
    (and_left (nat_le n 6 && false) (is_dash_run t) (and_right (nat_le n 6) false refl))

all_drop : (p : ℕ → Bool) (k : ℕ) (xs : List ℕ) → list_all p xs ≡ true →
    list_all p (drop k xs) ≡ true
all_drop p zero xs all = all
all_drop p (suc k) [] all = refl
all_drop p (suc k) (x ∷ xs) all = all_drop p k xs (and_parts (p x) (list_all p xs) all).1

-- no number sign is silent
unsigned : (sign : List ℕ) → list_all is_sign sign ≡ true → list_all is_silent sign ≡ true →
    not (length sign == 0) ≡ false
unsigned [] signs silent = refl
unsigned (c ∷ cs) signs silent =
    let sign = (and_parts (is_sign c) (list_all is_sign cs) signs).0 in
    let here = (and_parts (is_silent c) (list_all is_silent cs) silent).0 in
    absurd (true≢false (sym here ∙ ap is_silent (eqb-true c 35 sign) ∙ sign_labels))

-- a text of such characters has no extension
pub silent_no_extension : (t : List ℕ) → list_all is_silent t ≡ true → HasNoExtension t
silent_no_extension t all k d h =
    let whole : list_all is_silent (h.announcement ++ (d ++ h.sign)) ≡ true =
    ap (list_all is_silent) (sym h.whole) ∙ all_drop is_silent k t all in
    let both = and_parts (list_all is_silent h.announcement) (list_all is_silent (d ++ h.sign))
    (sym (list_all-append is_silent h.announcement (d ++ h.sign)) ∙ whole) in
    let ends = and_parts (list_all is_silent d) (list_all is_silent h.sign)
    (sym (list_all-append is_silent d h.sign) ∙ both.1) in
    let told : announces (allowed (length d) false) h.announcement ≡ true =
    subst (λ b. announces (allowed (length d) b) h.announcement ≡ true)
    (unsigned h.sign h.signs.only ends.1)
    (announces_of h.announcement (length d) (not (length h.sign == 0)) h.announced) in
    true≢false (sym told ∙ silent_announces (length d) h.announcement both.0)
