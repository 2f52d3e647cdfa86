-- Tests that two sides tell alike, and searches of words.
use Rattle.std.proofs.Common.{◌≡◌, ℕ, zero, suc, ◌==◌, ◌≤◌, ◌<◌, Bool, true, false, nat_le, Bor, List, [], ◌∷◌, ◌++◌, IsUtf8, get_or, length, map, take, eqb-true, leb-true, refl, ap, sym, ◌∙◌, true≢false, arith}
use Rattle.std.proofs.lemmas.Bool.{eq-eqb, le-leb, or_from, or_left, or_parts, or_right}
use Rattle.std.proofs.lemmas.List.{nil_from_length}
use Rattle.std.proofs.lemmas.Str.{chars-nil}
use Rattle.std.specs.List.{list_any}
use Rattle.std.specs.Str.{chars}
use Rattle.phone_parts.specs.Longest.{AreEndsUpTo}
use Rattle.phone_parts.proofs.Cores.{nil_from_chars}
use Rattle.phone_library_text.specs.Scans.{IsMarkGap, is_mark_gap, is_nil}

-- two tests that pass together are one
pub same_test : (a b : Bool) → (a ≡ true → b ≡ true) → (b ≡ true → a ≡ true) → a ≡ b
same_test true true f g = refl
same_test true false f g = sym (f refl)
same_test false true f g = g refl
same_test false false f g = refl

pub nil_of : (t : List ℕ) → is_nil t ≡ true → t ≡ []
nil_of [] h = refl
nil_of (c ∷ cs) h = absurd (true≢false (sym h))

pub some_of : (t : List ℕ) → is_nil t ≡ false → 1 ≤ length t
some_of [] h = absurd (true≢false h)
some_of (c ∷ cs) h = omega arith

-- a text without bytes is one without characters
pub nil_test : (t : List ℕ) → IsUtf8 t → (length t == 0) ≡ is_nil (chars t)
nil_test t u = same_test (length t == 0) (is_nil (chars t))
    (λ e. ap (λ r. is_nil (chars r)) (nil_from_length t (eqb-true (length t) 0 e)) ∙ ap is_nil chars-nil)
    (λ e. eq-eqb (length t) 0 (ap length (nil_from_chars t u (nil_of (chars t) e))))

-- an end of a text is a mark and a gap where it isn't longer than the longest of these
pub limit_test : (limit : ℕ) (text v rest : List ℕ) → AreEndsUpTo IsMarkGap limit text → text ≡ v ++ rest → IsUtf8 rest →
    nat_le (length rest) limit ≡ is_mark_gap (chars rest)
limit_test limit text v rest h cut u =
    let iff = h v rest cut u in
    same_test (nat_le (length rest) limit) (is_mark_gap (chars rest)) (λ e. iff.1 (leb-true (length rest) limit e)) (λ e. le-leb (length rest) limit (iff.0 e))

abbrev pub texts_of : List (Bor (List ℕ)) → List (List ℕ)
texts_of words = map (λ (w : Bor (List ℕ)). chars w.now) words

pub any_at : (q : List ℕ → Bool) (words : List (Bor (List ℕ))) (i : ℕ) (other : Bor (List ℕ)) → i < length words →
    q (chars (get_or words i other).now) ≡ true → list_any q (texts_of words) ≡ true
any_at q [] i other less h = absurd (omega arith)
any_at q (w ∷ ws) zero other less h = or_left (q (chars w.now)) _ h
any_at q (w ∷ ws) (suc i) other less h = or_right (q (chars w.now)) _ (any_at q ws i other (omega arith) h)

pub none_of_more : (q : List ℕ → Bool) (words : List (Bor (List ℕ))) (i : ℕ) (other : Bor (List ℕ)) → list_any q (texts_of (take i words)) ≡ false →
    q (chars (get_or words i other).now) ≡ false → list_any q (texts_of (take (suc i) words)) ≡ false
none_of_more q [] i other none here = refl
none_of_more q (w ∷ ws) zero other none here = or_from (q (chars w.now)) _ here refl
none_of_more q (w ∷ ws) (suc i) other none here =
    let parts = or_parts (q (chars w.now)) (list_any q (texts_of (take i ws))) none in
    or_from (q (chars w.now)) _ parts.0 (none_of_more q ws i other parts.1 here)
