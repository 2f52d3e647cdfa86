-- A text, and what stands at a place of it.
use Rattle.std.proofs.Common.{◌≡◌, ℕ, ◌+◌, ◌≤◌, ◌<◌, ◌==◌, true, List, [], ◌∷◌, ◌++◌, length, length-append, drop, chars, append_assoc, refl, ap, sym, ◌∙◌, arith}
use Rattle.std.proofs.Math.Seq.{drop-append-add, drop-append_seam}
use Rattle.std.proofs.lemmas.List.{append_cancel_left, append_cancel_right}
use Rattle.std.proofs.lemmas.Str.{chars-nil}
use Rattle.phone_chars.specs.Cuts.{IsEnd}
use Rattle.phone_matches_text.proofs.Ends.{before_end_front}
use Rattle.phone_matches_text.specs.Pieces.{Piece, StandsIn}
use Rattle.phone_matches_text.specs.Shapes.{before_end}
use Rattle.phone_matches.specs.Searches.{behind}

-- what follows a place
pub behind_parts : (text before piece after : List ℕ) → text ≡ before ++ (piece ++ after) → after ≡ behind text (before, piece)
behind_parts text before piece after e =
    sym (ap (drop (length before + length piece)) e ∙ drop-append-add before (piece ++ after) (length piece) ∙ drop-append_seam piece after)

-- what stands behind a front
pub same_rest : (front a b text : List ℕ) → text ≡ front ++ a → text ≡ front ++ b → a ≡ b
same_rest front a b text e f = append_cancel_left front a b (sym e ∙ f)

-- what follows a candidate at the front of an end of a text
pub candidate_rest : (text front from candidate rest : List ℕ) → text ≡ front ++ from → from ≡ candidate ++ rest →
    rest ≡ behind text (before_end text from, candidate)
candidate_rest text front from candidate rest e f =
    behind_parts text front candidate rest (e ∙ ap (λ t. front ++ t) f)
    ∙ ap (λ (b : List ℕ). behind text (b, candidate)) (sym (before_end_front text front from e))

-- a piece stands in each text that begins with one it stands in
pub stands_longer : (text more : List ℕ) (p : Piece) (rest : List ℕ) → more ≡ text ++ rest → StandsIn text p → StandsIn more p
stands_longer text more p rest e s = record {
  after = s.after ++ rest;
  whole =
      e ∙ ap (λ t. t ++ rest) s.whole ∙ append_assoc p.0 (p.1 ++ s.after) rest
      ∙ ap (λ t. p.0 ++ t) (append_assoc p.1 s.after rest);
}

-- the place of a piece of an end of a text
pub placed_front : (text front from before at piece : List ℕ) → text ≡ front ++ from → from ≡ piece ++ at → text ≡ before ++ at →
    before ≡ front ++ piece
placed_front text front from before at piece a b c =
    append_cancel_right before (front ++ piece) at (sym c ∙ a ∙ ap (λ t. front ++ t) b ∙ sym (append_assoc front piece at))

-- how long what stands before it is
pub placed_length : (text before at from v : List ℕ) → text ≡ before ++ at → from ≡ v ++ at → length text ≤ length before + length from
placed_length text before at from v a b =
    let l = ap length a ∙ length-append before at in
    let m = ap length b ∙ length-append v at in
    omega (arith, l, m)

-- an end of an end
pub end_of_end : (text from rest : List ℕ) → IsEnd text from → IsEnd from rest → IsEnd text rest
end_of_end text from rest a b = (a.0 ++ b.0, a.1 ∙ ap (λ t. a.0 ++ t) b.1 ∙ sym (append_assoc a.0 b.0 rest))

-- what follows some characters is shorter
pub shorter_front : (from candidate rest : List ℕ) → from ≡ candidate ++ rest → ¬ (chars candidate ≡ []) → length rest < length from
shorter_front from [] rest e some = absurd (some chars-nil)
shorter_front from (c ∷ cs) rest e some =
    let l = ap length e ∙ length-append (c ∷ cs) rest in
    omega (arith, l)

-- nothing stands before a front
pub front_nothing : (t : List ℕ) → t ≡ [] → true ≡ (length (chars t) == 0)
front_nothing t e = rw (e, chars-nil) refl
