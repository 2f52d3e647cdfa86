-- What a text begins and ends in.
use Rattle.std.proofs.Common.{◌≡◌, inr, ℕ, Bool, true, false, not, List, [], ◌∷◌, ◌++◌, append_assoc, append-nil, refl, ap, sym, ◌∙◌, true≢false}
use Rattle.std.proofs.lemmas.Bool.{and_parts, and_from, or_from, not_from_true, not_from_false}
use Rattle.std.proofs.lemmas.List.{append_cancel_left}
use Rattle.std.specs.List.{list_any, list_all}
use Rattle.phone_parts.specs.Texts.{begins, ends}
use Rattle.phone_parts.proofs.Cores.{ends-push, kept_same}

-- what passes one test passes a wider one
pub all_wider : (p q : ℕ → Bool) → ((c : ℕ) → p c ≡ true → q c ≡ true) → (xs : List ℕ) → list_all p xs ≡ true → list_all q xs ≡ true
all_wider p q wider [] all = refl
all_wider p q wider (x ∷ xs) all =
    let parts = and_parts (p x) (list_all p xs) all in and_from (q x) (list_all q xs) (wider x parts.0) (all_wider p q wider xs parts.1)

pub begins_wider : (p q : ℕ → Bool) → ((c : ℕ) → p c ≡ true → q c ≡ true) → (xs : List ℕ) → begins p xs ≡ true → begins q xs ≡ true
begins_wider p q wider [] e = absurd (true≢false (sym e))
begins_wider p q wider (x ∷ xs) e = wider x e

pub ends_wider : (p q : ℕ → Bool) → ((c : ℕ) → p c ≡ true → q c ≡ true) → (xs : List ℕ) → ends p xs ≡ true → ends q xs ≡ true
ends_wider p q wider [] e = absurd (true≢false (sym e))
ends_wider p q wider (x ∷ []) e = wider x e
ends_wider p q wider (x ∷ y ∷ xs) e = ends_wider p q wider (y ∷ xs) e

-- a text begins as its front does, where that has a character
pub begins_of_front : (p : ℕ → Bool) (a b : List ℕ) → begins p a ≡ true → begins p (a ++ b) ≡ true
begins_of_front p [] b e = absurd (true≢false (sym e))
begins_of_front p (x ∷ a) b e = e

-- where all pass none fails
pub none_fails : (p : ℕ → Bool) (xs : List ℕ) → list_all p xs ≡ true → list_any (λ c. not (p c)) xs ≡ false
none_fails p [] all = refl
none_fails p (x ∷ xs) all =
    let parts = and_parts (p x) (list_all p xs) all in or_from (not (p x)) (list_any (λ c. not (p c)) xs) (not_from_true (p x) parts.0) (none_fails p xs parts.1)

-- a text ends as its end does
pub ends-append : (p : ℕ → Bool) (a b : List ℕ) → ¬ (b ≡ []) → ends p (a ++ b) ≡ ends p b
ends-append p a [] some = absurd (some refl)
ends-append p [] (y ∷ b) some = refl
ends-append p (x ∷ []) (y ∷ b) some = refl
ends-append p (x ∷ z ∷ a) (y ∷ b) some = ends-append p (z ∷ a) (y ∷ b) some

-- a run behind a text that ends in a member
pub ends-append_run : (p : ℕ → Bool) (a run : List ℕ) → ends p a ≡ true → list_all p run ≡ true → ends p (a ++ run) ≡ true
ends-append_run p a [] e all = ap (ends p) (append-nil a) ∙ e
ends-append_run p a (x ∷ run) e all =
    let parts = and_parts (p x) (list_all p run) all in
    ap (ends p) (sym (append_assoc a (x ∷ []) run)) ∙ ends-append_run p (a ++ x ∷ []) run (ends-push p a x ∙ parts.0) parts.1

-- a run behind a text is empty where all ends in a character apart from it
pub no_run_at_end : (p : ℕ → Bool) (a run t : List ℕ) (x : ℕ) → list_all p run ≡ true → p x ≡ false → a ++ run ≡ t ++ x ∷ [] → run ≡ []
no_run_at_end p a [] t x all none e = refl
no_run_at_end p a (y ∷ run) t x all none e =
    let parts = and_parts (p y) (list_all p run) all in
    let last : ends p (a ++ y ∷ run) ≡ true = ends-append p a (y ∷ run) (λ f. cc) ∙ ends-append_run p (y ∷ []) run parts.0 parts.1 in
    absurd (true≢false (sym last ∙ ap (ends p) e ∙ ends-push p t x ∙ none))

-- a text that ends in no member ends in another character
pub ends-not : (p : ℕ → Bool) (xs : List ℕ) → ¬ (xs ≡ []) → ends p xs ≡ false → ends (λ c. not (p c)) xs ≡ true
ends-not p [] some none = absurd (some refl)
ends-not p (x ∷ []) some none = not_from_false (p x) none
ends-not p (x ∷ y ∷ xs) some none = ends-not p (y ∷ xs) (λ e. cc) none

-- a text's longest end in a set is one
pub longest_end_same : (p : ℕ → Bool) (a b d e : List ℕ) → a ++ d ≡ b ++ e → list_all p d ≡ true → list_all p e ≡ true →
    ends (λ c. not (p c)) a ≡ true → ends (λ c. not (p c)) b ≡ true → d ≡ e
longest_end_same p a b d e whole in_d in_e before_d before_e =
    let same : a ≡ b = kept_same (λ c. not (p c)) a b d e whole (none_fails p d in_d) (none_fails p e in_e) (inr before_d) (inr before_e) in
    append_cancel_left b d e (ap (λ t. t ++ d) (sym same) ∙ whole)

-- a run and one character more, cut at a character apart from the run: the run stands before the cut
pub cut_after_run : (p : ℕ → Bool) (run : List ℕ) (x : ℕ) (a : List ℕ) (y : ℕ) (b : List ℕ) → run ++ x ∷ [] ≡ a ++ y ∷ b → list_all p run ≡ true →
    p y ≡ false → run ≡ a
cut_after_run p [] x [] y b e all none = refl
cut_after_run p [] x (z ∷ a) y b e all none = absurd (some a (cc))
  where
    some : (a : List ℕ) → ¬ ([] ≡ a ++ y ∷ b)
    some [] f = cc
    some (w ∷ a) f = cc
cut_after_run p (r ∷ run) x [] y b e all none =
    let same : r ≡ y = cc in
    absurd (true≢false (sym (and_parts (p r) (list_all p run) all).0 ∙ ap p same ∙ none))
cut_after_run p (r ∷ run) x (z ∷ a) y b e all none =
    let heads : r ≡ z = cc in
    let tails : run ++ x ∷ [] ≡ a ++ y ∷ b = cc in
    let rest = cut_after_run p run x a y b tails (and_parts (p r) (list_all p run) all).1 none in
    cc
