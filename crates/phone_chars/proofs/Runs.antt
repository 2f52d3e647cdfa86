-- Fronts of a list of characters, and ends of a text.
use Rattle.std.proofs.Common.{◌≡◌, ℕ, ◌-◌, ◌≤◌, Bor, Option, Some, None, Bool, true, false, cond, List, [], ◌∷◌, ◌++◌, length, drop, IsUtf8, encode_utf8, refl, ap, sym, ◌∙◌, arith, length-append, append-nil}
use Rattle.std.proofs.lemmas.List.{append_cancel_right, take-append-drop}
use Rattle.std.proofs.lemmas.Str.{IsUtf8-drop, IsCharBoundary-start, IsCharBoundary-at_seam, IsCharBoundary-from_take, chars_past_char, chars-nil}
use Rattle.std.proofs.Math.Nat.{sub-zero}
use Rattle.std.proofs.Math.Seq.{drop-append_seam, take-append_seam}
use Rattle.std.specs.Option.{unwrap_or}
use Rattle.std.specs.Str.{chars}
use Rattle.std.specs.Str.Pattern.{GetsRange}
use Rattle.phone_chars.specs.Cuts.{front, after_front}

front_or : (p : ℕ → Bool) (c : ℕ) (cs : List ℕ) → front p cs ++ after_front p cs ≡ cs → (b : Bool) →
    cond b (c ∷ front p cs) [] ++ cond b (after_front p cs) (c ∷ cs) ≡ c ∷ cs
front_or p c cs h true = ap (λ t. c ∷ t) h
front_or p c cs h false = refl

pub front-append-after_front : (p : ℕ → Bool) (cs : List ℕ) → front p cs ++ after_front p cs ≡ cs
front-append-after_front p [] = refl
front-append-after_front p (c ∷ cs) = front_or p c cs (front-append-after_front p cs) (p c)

-- what stands before the rest is the front
pub front_before : (p : ℕ → Bool) (cs us vs : List ℕ) → cs ≡ us ++ vs → vs ≡ after_front p cs → us ≡ front p cs
front_before p cs us vs whole rest =
    append_cancel_right us (front p cs) vs (sym whole ∙ sym (front-append-after_front p cs) ∙ ap (λ t. front p cs ++ t) (sym rest))

-- what follows a text in a text is text
pub IsUtf8-after : (xs ys : List ℕ) → IsUtf8 (xs ++ ys) → IsUtf8 xs → IsUtf8 ys
IsUtf8-after xs ys whole before =
    let in_text : length xs ≤ length (xs ++ ys) = omega (arith, length-append xs ys) in
    rw drop-append_seam at (IsUtf8-drop (xs ++ ys) (length xs) whole
    (IsCharBoundary-from_take (xs ++ ys) (length xs) whole in_text (rw take-append_seam before)))

pub chars-encode_utf8 : (c : ℕ) → IsUtf8 (encode_utf8 c) → chars (encode_utf8 c) ≡ c ∷ []
chars-encode_utf8 c h = chars_past_char (encode_utf8 c) [] c h (sym (append-nil _)) ∙ ap (λ t. c ∷ t) chars-nil

end_starts : (text rest v : List ℕ) (n : ℕ) → n ≡ length text - length rest → text ≡ v ++ rest → n ≡ length v
end_starts text rest v n e whole = omega (arith, e, ap length whole, length-append v rest)

-- the slice of a text up to where an end of it begins is what stands before that end
pub front_of_end : (text : Bor (List ℕ)) (rest v : List ℕ) (n : ℕ) → n ≡ length text.now - length rest → text.now ≡ v ++ rest → IsUtf8 text.now → IsUtf8 rest →
    (o : Option (Bor (List ℕ))) → GetsRange text.now 0 n o → (unwrap_or o text).now ≡ v
front_of_end text rest v n e whole u w None h = absurd (h (omega arith) (IsCharBoundary-start text.now u) (rw (end_starts text.now rest v n e whole) (IsCharBoundary-at_seam text.now v rest whole w)))
front_of_end text rest v n e whole u w (Some x) h = h.0 ∙ rw (sub-zero n, end_starts text.now rest v n e whole, whole) (take-append_seam v rest)

-- a slice from the start of a text is a front of it, and so is the text
pub gets_front : (text : Bor (List ℕ)) (n : ℕ) (o : Option (Bor (List ℕ))) → GetsRange text.now 0 n o →
    (w : List ℕ) × (text.now ≡ (unwrap_or o text).now ++ w)
gets_front text n None h = ([], sym (append-nil text.now))
gets_front text n (Some x) h = (drop n text.now, rw (h.0, sub-zero n) (sym (take-append-drop n text.now)))
