-- The longest front of a text in a set, and the rest.
use Rattle.std.proofs.Common.{◌≡◌, ℕ, Bool, true, false, List, [], ◌∷◌, ◌++◌, refl, ap, sym, ◌∙◌, ap₂}
use Rattle.std.proofs.lemmas.Bool.{and_parts}
use Rattle.std.specs.List.{list_all}
use Rattle.phone_chars.proofs.Runs.{front-append-after_front}
use Rattle.phone_chars.specs.Cuts.{front, after_front}
use Rattle.phone_parts.specs.Texts.{begins}

-- the front of a run and a rest that doesn't begin with a member is the run
pub front_of_run : (p : ℕ → Bool) (run rest : List ℕ) → list_all p run ≡ true → begins p rest ≡ false → front p (run ++ rest) ≡ run
front_of_run p [] [] all none = refl
front_of_run p [] (y ∷ rest) all none = rw none
front_of_run p (x ∷ run) rest all none =
    let parts = and_parts (p x) (list_all p run) all in
    rw parts.0 (ap (λ t. x ∷ t) (front_of_run p run rest parts.1 none))

pub after_front_of_run : (p : ℕ → Bool) (run rest : List ℕ) → list_all p run ≡ true → begins p rest ≡ false → after_front p (run ++ rest) ≡ rest
after_front_of_run p [] [] all none = refl
after_front_of_run p [] (y ∷ rest) all none = rw none
after_front_of_run p (x ∷ run) rest all none =
    let parts = and_parts (p x) (list_all p run) all in
    rw parts.0 (after_front_of_run p run rest parts.1 none)

-- the front is a run, and the rest doesn't begin with a member
pub all_in_front : (p : ℕ → Bool) (text : List ℕ) → list_all p (front p text) ≡ true
all_in_front p [] = refl
all_in_front p (x ∷ xs) = at_head (p x) refl (all_in_front p xs)
  where
    at_head : (b : Bool) → p x ≡ b → list_all p (front p xs) ≡ true → list_all p (front p (x ∷ xs)) ≡ true
    at_head true e h = rw (e, e) h
    at_head false e h = rw e

pub none_after_front : (p : ℕ → Bool) (text : List ℕ) → begins p (after_front p text) ≡ false
none_after_front p [] = refl
none_after_front p (x ∷ xs) = at_head (p x) refl (none_after_front p xs)
  where
    at_head : (b : Bool) → p x ≡ b → begins p (after_front p xs) ≡ false → begins p (after_front p (x ∷ xs)) ≡ false
    at_head true e h = rw e h
    at_head false e h = rw (e, e)

-- a run with a character begins with a member
pub run_begins : (p : ℕ → Bool) (run : List ℕ) → list_all p run ≡ true → ¬ (run ≡ []) → begins p run ≡ true
run_begins p [] all some = absurd (some refl)
run_begins p (x ∷ run) all some = (and_parts (p x) (list_all p run) all).0

-- a text is its front and the rest
pub run_whole : (p : ℕ → Bool) (text run rest : List ℕ) → run ≡ front p text → rest ≡ after_front p text → text ≡ run ++ rest
run_whole p text run rest e f = sym (front-append-after_front p text) ∙ ap₂ (λ a b. a ++ b) (sym e) (sym f)
