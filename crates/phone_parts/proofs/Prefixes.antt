-- A front that a text begins with or not.
use Rattle.std.proofs.Common.{◌≡◌, ◌↔◌, ℕ, Bool, true, false, IsTrue, true≢false, List, ◌++◌, length, take, drop, Some, refl, ap, sym, ◌∙◌}
use Rattle.std.proofs.Math.Seq.{drop-append_seam, take-append_seam}
use Rattle.std.proofs.lemmas.Bool.{false_from_ne_true, cond-false, cond-true}
use Rattle.std.proofs.lemmas.List.{take-append-drop}
use Rattle.std.proofs.lemmas.Slice.Eq.{bytes_eq-Decides}
use Rattle.phone_parts.specs.Texts.{is_front, without_front}

-- a text that begins with the front
pub is_front-append : (front rest : List ℕ) → is_front front (front ++ rest) ≡ true
is_front-append front rest = (bytes_eq-Decides (take (length front) (front ++ rest)) front).1 (take-append_seam front rest)

pub without_front-append : (front rest : List ℕ) → without_front (Some front) (front ++ rest) ≡ rest
without_front-append front rest = cond-true _ _ _ (is_front-append front rest) ∙ drop-append_seam front rest

-- a text that does not
pub is_front-no : (front text : List ℕ) → ((rest : List ℕ) → ¬ (text ≡ front ++ rest)) → is_front front text ≡ false
is_front-no front text none = false_from_ne_true _ (λ t.
    let same : take (length front) text ≡ front = (bytes_eq-Decides (take (length front) text) front).0 t in
    none (drop (length front) text) (sym (take-append-drop (length front) text) ∙ ap (λ xs. xs ++ drop (length front) text) same))

pub without_front-no : (front text : List ℕ) → ((rest : List ℕ) → ¬ (text ≡ front ++ rest)) → without_front (Some front) text ≡ text
without_front-no front text none = cond-false _ _ _ (is_front-no front text none)

-- a text that has the front is the front, and what follows so many bytes
pub is_front-drop : (front text : List ℕ) → is_front front text ≡ true → text ≡ front ++ drop (length front) text
is_front-drop front text h =
    sym (take-append-drop (length front) text) ∙ ap (λ xs. xs ++ drop (length front) text) ((bytes_eq-Decides (take (length front) text) front).0 h)

-- what tells whether a text begins with the front
pub is_front-decided : (front text : List ℕ) (b : Bool) → (IsTrue b ↔ ((rest : List ℕ) × (text ≡ front ++ rest))) → b ≡ is_front front text
is_front-decided front text true told = let at = told.0 refl in sym (ap (is_front front) at.1 ∙ is_front-append front at.0)
is_front-decided front text false told = sym (is_front-no front text (λ rest e. true≢false (sym (told.1 (rest, e)))))
