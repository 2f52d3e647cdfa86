-- The cores of texts that begin with a plus sign.
use Rattle.std.proofs.Common.{◌≡◌, ℕ, Bool, true, false, not, ◌==◌, ◌||◌, ◌&&◌, zero, suc, List, [], ◌∷◌, ◌++◌, drop, refl, ap, sym, ◌∙◌, true≢false}
use Rattle.std.proofs.lemmas.Bool.{or_parts, not-false}
use Rattle.std.specs.List.{list_any, list_all}
use Rattle.phone_chars.specs.Cuts.{after_front}
use Rattle.phone_parts.specs.Cores.{IsCore, begins_second_number, is_last}
use Rattle.phone_parts.specs.Texts.{begins, ends}
use Rattle.phone_parts.proofs.Cores.{kept_core, undivided}
use Rattle.phone_parts.proofs.Ends.{ends-append}
use Rattle.phone_parts.proofs.PrintedTexts.{is_slash}

-- no second-number mark begins anywhere in the text
abbrev pub IsUnmarked : List ℕ → Type 0
IsUnmarked text = (k : ℕ) → begins_second_number (drop k text) ≡ false

pub unmarked_nil : IsUnmarked []
unmarked_nil zero = refl
unmarked_nil (suc k) = refl

pub unmarked_more : (c : ℕ) (cs : List ℕ) → begins_second_number (c ∷ cs) ≡ false → IsUnmarked cs → IsUnmarked (c ∷ cs)
unmarked_more c cs here later zero = here
unmarked_more c cs here later (suc k) = later k

-- a text without a slash has none
pub unslashed : (text : List ℕ) → list_any is_slash text ≡ false → IsUnmarked text
unslashed [] none = unmarked_nil
unslashed (c ∷ cs) none =
    let parts = or_parts (is_slash c) (list_any is_slash cs) none in
    unmarked_more c cs (ap (λ b. b && begins (λ d. d == 120) (after_front (λ d. d == 32) cs)) parts.0) (unslashed cs parts.1)

-- spaces and an x don't begin before a text where they don't begin it, if no x stands there
no_x_before : (before text : List ℕ) → list_any (λ c. c == 120) before ≡ false → begins (λ c. c == 120) (after_front (λ c. c == 32) text) ≡ false →
    begins (λ c. c == 120) (after_front (λ c. c == 32) (before ++ text)) ≡ false
no_x_before [] text none first = first
no_x_before (c ∷ before) text none first =
    let parts = or_parts (c == 120) (list_any (λ d. d == 120) before) none in at (c == 32) refl parts.0 (no_x_before before text parts.1 first)
  where
    at : (b : Bool) → (c == 32) ≡ b → (c == 120) ≡ false → begins (λ d. d == 120) (after_front (λ d. d == 32) (before ++ text)) ≡ false →
        begins (λ d. d == 120) (after_front (λ d. d == 32) (c ∷ (before ++ text))) ≡ false
    at true e no_x later = rw e later
    at false e no_x later = rw e no_x

-- so no mark begins there
pub unmarked_before : (before text : List ℕ) → list_any (λ c. c == 120) before ≡ false → begins (λ c. c == 120) (after_front (λ c. c == 32) text) ≡ false →
    IsUnmarked text → IsUnmarked (before ++ text)
unmarked_before [] text none first later = later
unmarked_before (c ∷ before) text none first later =
    let parts = or_parts (c == 120) (list_any (λ d. d == 120) before) none in
    unmarked_more c (before ++ text) (no_mark (is_slash c) (no_x_before before text parts.1 first)) (unmarked_before before text parts.1 first later)
  where
    no_mark : (b : Bool) → begins (λ d. d == 120) (after_front (λ d. d == 32) (before ++ text)) ≡ false →
        (b && begins (λ d. d == 120) (after_front (λ d. d == 32) (before ++ text))) ≡ false
    no_mark true e = e
    no_mark false e = refl

-- a text from its plus sign on, up to the last character in which a number may end, is the core
pub signed_core : (body trailing : List ℕ) → list_any is_last trailing ≡ false → ends is_last (43 ∷ body) ≡ true → IsUnmarked (43 ∷ body) →
    IsCore (43 ∷ (body ++ trailing)) (43 ∷ body)
signed_core body trailing none last unmarked = kept_core (43 ∷ body) trailing refl last none (undivided (43 ∷ body) (λ k less. unmarked k))

-- a text is cut after its last member of a set
pub record IsCutAfterLast (p : ℕ → Bool) (text : List ℕ) : Type 0 where
  pub kept : List ℕ
  pub rest : List ℕ
  pub whole : text ≡ kept ++ rest
  pub none : list_any p rest ≡ false
  pub last : ends p kept ≡ true

pub cut_after_last : (p : ℕ → Bool) (text : List ℕ) → list_any p text ≡ true → IsCutAfterLast p text
cut_after_last p [] some = absurd (true≢false (sym some))
cut_after_last p (c ∷ cs) some = at (list_any p cs) refl (cut_after_last p cs)
  where
    not_nil : (xs : List ℕ) → ends p xs ≡ true → ¬ (xs ≡ [])
    not_nil [] e f = true≢false (sym e)
    not_nil (x ∷ xs) e f = cc

    only_head : (b d : Bool) → d ≡ false → (b || d) ≡ true → b ≡ true
    only_head true d e f = refl
    only_head false d e f = absurd (true≢false (sym f ∙ e))

    at : (b : Bool) → list_any p cs ≡ b → (list_any p cs ≡ true → IsCutAfterLast p cs) → IsCutAfterLast p (c ∷ cs)
    at true e more =
        let cut = more e in
        record {
          kept = c ∷ cut.kept;
          rest = cut.rest;
          whole = ap (λ t. c ∷ t) cut.whole;
          none = cut.none;
          last = ends-append p (c ∷ []) cut.kept (not_nil cut.kept cut.last) ∙ cut.last;
        }
    at false e more = record { kept = c ∷ []; rest = cs; whole = refl; none = e; last = only_head (p c) (list_any p cs) e some }

-- where none fails all pass
pub all_of_none : (p : ℕ → Bool) (xs : List ℕ) → list_any (λ c. not (p c)) xs ≡ false → list_all p xs ≡ true
all_of_none p [] none = refl
all_of_none p (x ∷ xs) none =
    let parts = or_parts (not (p x)) (list_any (λ c. not (p c)) xs) none in
    rw (not-false (p x) parts.0) (all_of_none p xs parts.1)
