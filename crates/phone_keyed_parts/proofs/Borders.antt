-- Where texts may be cut: behind a byte of ASCII in front, and behind a front.
use Rattle.std.proofs.Common.{◌≡◌, ◌++◌, ◌≤◌, ◌<◌, ℕ, List, [], ◌∷◌, Option, Some, None, Result, Ok, Err, IfOk, IfSome, true, drop, take, length, IsUtf8, IsCharBoundary, arith, ap, sym, subst, ◌∙◌}
use Rattle.std.proofs.Math.Seq.{take-append_seam}
use Rattle.std.proofs.lemmas.List.{length-append}
use Rattle.std.proofs.lemmas.Bool.{and_parts}
use Rattle.std.proofs.lemmas.Str.{IsCharBoundary-after_ascii, IsCharBoundary-from_take}
use borrow.Author.Tests.{eqb-true}
use Rattle.phone_parts.proofs.Prefixes.{is_front-drop}
use Rattle.phone_parts.specs.Texts.{is_front}
use Rattle.phone_pattern.specs.First.{IsCut}
use Rattle.phone_records.specs.declared.loader.Metadata.{Metadata}
use Rattle.phone_keyed_parts.specs.Lines.{has_trunk_one, is_at}

-- behind the first byte, where it is this one, of ASCII
pub behind_first : (byte : ℕ) (text : List ℕ) → IsUtf8 text → byte < 128 → is_at 0 byte text ≡ true → IsCharBoundary text 1
behind_first byte [] utf8 small e = absurd (cc)
behind_first byte (x ∷ xs) utf8 small e =
    IsCharBoundary-after_ascii (x ∷ xs) 0 utf8 (omega arith) (subst (λ y. y < 128) (sym (eqb-true x byte e)) small)

-- behind a front that is a text
pub behind_front : (front text : List ℕ) → IsUtf8 front → IsUtf8 text → is_front front text ≡ true → IsCharBoundary text (length front)
behind_front front text utf8 whole e =
    let rest = drop (length front) text in
    let parts : text ≡ front ++ rest = is_front-drop front text e in
    let begun : take (length front) text ≡ front = ap (take (length front)) parts ∙ take-append_seam front rest in
    let long : length text ≡ length (front ++ rest) = ap length parts in
    let sum = length-append front rest in
    let fits : length front ≤ length text = omega (arith, long, sum) in
    IsCharBoundary-from_take text (length front) whole fits (subst IsUtf8 (sym begun) utf8)

-- behind a trunk prefix 1
pub behind_trunk_one : (m : Metadata) (digits : List ℕ) → IsUtf8 digits → has_trunk_one m digits ≡ true → IsCharBoundary digits 1
behind_trunk_one m digits utf8 e = behind_first 49 digits utf8 (omega arith) (and_parts _ _ (and_parts _ _ e).1).0

-- where a first match ends
pub match_end : {E : Type 0} (text : List ℕ) (r : Result (Option ℕ) E) → IfOk r (λ end. IfSome end (λ e. IsCut text (0, e))) → IfOk r (λ end. IfSome end (λ e. IsCharBoundary text e))
match_end text (Ok (Some e)) h = h.3
match_end text (Ok None) h = tt
match_end text (Err e) h = tt
