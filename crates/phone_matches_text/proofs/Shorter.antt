-- What follows a part of a text is no longer than that text.
use Rattle.std.proofs.Common.{◌≡◌, ℕ, zero, suc, ◌≤◌, ◌<◌, ◌&&◌, Bool, true, false, cond, List, [], ◌∷◌, length, drop, refl, ap, sym, ◌∙◌, arith}
use Rattle.std.proofs.lemmas.Bool.{and_parts}
use Rattle.phone_chars.specs.Cuts.{after_front}
use Rattle.phone_matches_text.specs.Pieces.{after_spaces, begins_one, begins_sign, behind_piece, behind_sign, from_one, from_sign, goes_on, is_some}
use Rattle.phone_matches_text.proofs.Steps.{first_later}
use Rattle.phone_matches_text.specs.Sets.{is_in}
use Rattle.phone_matches_text.specs.Shapes.{Test, any, from_first}
use Rattle.phone_matches_text.specs.declared.pieces.Sign.{Sign}
use Rattle.phone_matches_text.specs.declared.pieces.Sign.TheVariants as sign
use Rattle.phone_matches_text.specs.declared.sets.Set.{Set}
use Rattle.phone_matches_text.specs.declared.sets.Set.TheVariants as set

-- of two texts, of at most n characters both
either_le : (n : ℕ) (a b : List ℕ) → length a ≤ n → length b ≤ n → (t : Bool) → length (cond t a b) ≤ n
either_le n a b x y true = x
either_le n a b x y false = y

pub from_first_le : (q : Test) (t : List ℕ) → length (from_first q t) ≤ length t
from_first_le q [] = omega arith
from_first_le q (c ∷ cs) =
    either_le (length (c ∷ cs)) (c ∷ cs) (from_first q cs) (omega arith) (omega (arith, from_first_le q cs)) (q (c ∷ cs))

pub after_front_le : (p : ℕ → Bool) (t : List ℕ) → length (after_front p t) ≤ length t
after_front_le p [] = omega arith
after_front_le p (c ∷ cs) =
    either_le (length (c ∷ cs)) (after_front p cs) (c ∷ cs) (omega (arith, after_front_le p cs)) (omega arith) (p c)

pub after_spaces_le : (stop : Set) (t : List ℕ) → length (after_spaces stop t) ≤ length t
after_spaces_le stop [] = omega arith
after_spaces_le stop (c ∷ cs) =
    either_le (length (c ∷ cs)) (after_spaces stop cs) (c ∷ cs) (omega (arith, after_spaces_le stop cs)) (omega arith)
    (is_in set.Space c && goes_on stop cs)

first_here : (q : Test) (c : ℕ) (cs : List ℕ) → q (c ∷ cs) ≡ true → from_first q (c ∷ cs) ≡ c ∷ cs
first_here q c cs h = rw h refl

passes_or : (q : Test) (c : ℕ) (cs : List ℕ) (b : Bool) → q (c ∷ cs) ≡ b → ¬ (from_first q (c ∷ cs) ≡ []) →
    (¬ (from_first q cs ≡ []) → q (from_first q cs) ≡ true) → q (from_first q (c ∷ cs)) ≡ true
passes_or q c cs true e some later = ap q (first_here q c cs e) ∙ e
passes_or q c cs false e some later =
    ap q (first_later q c cs e) ∙ later (λ none. some (first_later q c cs e ∙ none))

-- where the test is passed somewhere it is passed at the first place
pub first_passes : (q : Test) (t : List ℕ) → ¬ (from_first q t ≡ []) → q (from_first q t) ≡ true
first_passes q [] some = absurd (some refl)
first_passes q (c ∷ cs) some = passes_or q c cs (q (c ∷ cs)) refl some (first_passes q cs)

-- behind a character of the set a run goes on
run_more : (p : ℕ → Bool) (c : ℕ) (cs : List ℕ) → p c ≡ true → length (after_front p (c ∷ cs)) ≤ length cs
run_more p c cs h = rw h (after_front_le p cs)

-- behind a sign and its piece less is left
pub behind_shorter : (s : Sign) (t : List ℕ) → ¬ (t ≡ []) → begins_sign s t ≡ true → length (behind_piece s (behind_sign s t)) < length t
behind_shorter s [] some h = absurd (some refl)
behind_shorter sign.Slashes (c ∷ cs) some h = omega arith
behind_shorter sign.Bracket (c ∷ cs) some h = omega (arith, from_first_le (λ t. begins_sign sign.Bracket t) cs)
behind_shorter sign.SpacedHyphen (c ∷ cs) some h = omega arith
behind_shorter sign.WideDash (c ∷ cs) some h = omega arith
behind_shorter sign.Dots (c ∷ cs) some h =
    let run = after_front (is_in set.Dot) (c ∷ cs) in
    let from = after_spaces set.Dot run in
    omega (arith, run_more (is_in set.Dot) c cs (and_parts (is_in set.Dot c) (any (is_in set.Dot) is_some cs) h).0, after_spaces_le set.Dot run, from_first_le (λ t. begins_one set.Dot t) from)
behind_shorter sign.Spaces (c ∷ cs) some h =
    let run = after_front (is_in set.Space) (c ∷ cs) in
    omega (arith, run_more (is_in set.Space) c cs (and_parts (is_in set.Space c) (any (is_in set.Space) is_some cs) h).0, from_first_le (λ t. begins_one set.Space t) run)

pub cut_shorter : (s : Sign) (t : List ℕ) → ¬ (from_sign s t ≡ []) → length (behind_piece s (behind_sign s (from_sign s t))) < length t
cut_shorter s t some =
    omega (arith, behind_shorter s (from_sign s t) some (first_passes (begins_sign s) t some), from_first_le (begins_sign s) t)
