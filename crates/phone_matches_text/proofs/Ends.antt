-- Ends of a text, and texts that are known.
use Rattle.std.proofs.Math.Seq.{take-append_seam}
use Rattle.phone_matches_text.specs.Shapes.{before_end}
use Rattle.std.proofs.Common.{◌≡◌, ℕ, List, [], ◌++◌, length, length-append, take, arith, Bor, Option, None, Some, IfSome, codes, append_assoc, append-nil, ap, sym, ◌∙◌, refl}
use Rattle.std.proofs.lemmas.Str.{chars-nil}
use Rattle.std.specs.Str.{chars}
use Rattle.phone_chars.specs.Cuts.{IsEnd}

pub end_of_end : (text from rest : List ℕ) → IsEnd text from → IsEnd from rest → IsEnd text rest
end_of_end text from rest a b =
    (a.0 ++ b.0, a.1 ∙ ap (λ t. a.0 ++ t) b.1 ∙ sym (append_assoc a.0 b.0 rest))

pub nothing_ends : (text : List ℕ) → IsEnd text []
nothing_ends text = (text, sym (append-nil text))

pub chars_nothing : chars [] ≡ []
chars_nothing = chars-nil

pub chars_parameter : chars (codes ";ext=") ≡ codes ";ext="
unfolding chars
chars_parameter = refl

-- what stands before an end
pub before_end_front : (text front end : List ℕ) → text ≡ front ++ end → before_end text end ≡ front
before_end_front text front end e =
    rw e (ap (λ n. take n (front ++ end)) (omega (arith, length-append front end)) ∙ take-append_seam front end)

-- what may be there is an end of a text where it is one of its end
pub end_if : (text from : List ℕ) (o : Option (Bor (List ℕ))) → IsEnd text from →
    IfSome o (λ r. IsEnd from r.now) → IfSome o (λ r. IsEnd text r.now)
end_if text from None e h = h
end_if text from (Some r) e h = end_of_end text from r.now e h
