-- Slices of slices.
use Rattle.std.proofs.Common.{Bor, Option, Some, None, IfSome, ◌≡◌, ℕ, List, [], ◌++◌, append_assoc, append-nil, ap, sym, ◌∙◌}
use Rattle.phone_parts.specs.Parts.{IsSlice}

pub slice_of_end : (text v rest part : List ℕ) → text ≡ v ++ rest → IsSlice rest part → IsSlice text part
slice_of_end text v rest part e s =
    record { before = v ++ s.before; after = s.after; whole = e ∙ ap (λ t. v ++ t) s.whole ∙ sym (append_assoc v s.before (part ++ s.after)) }

pub slice_from_end : (text v part : List ℕ) → text ≡ v ++ part → IsSlice text part
slice_from_end text v part e = record { before = v; after = []; whole = e ∙ ap (λ t. v ++ t) (sym (append-nil part)) }

pub slice_from_front : (text part v : List ℕ) → text ≡ part ++ v → IsSlice text part
slice_from_front text part v e = record { before = []; after = v; whole = e }

-- an end of an end is an end
pub end_of_end : (text middle rest : List ℕ) → ((v : List ℕ) × (text ≡ v ++ middle)) → ((v : List ℕ) × (middle ≡ v ++ rest)) → (v : List ℕ) × (text ≡ v ++ rest)
end_of_end text middle rest a b = (a.0 ++ b.0, a.1 ∙ ap (λ t. a.0 ++ t) b.1 ∙ sym (append_assoc a.0 b.0 rest))

pub slice_of_slice : (text middle part : List ℕ) → IsSlice text middle → IsSlice middle part → IsSlice text part
slice_of_slice text middle part a b =
    let inner : middle ++ a.after ≡ b.before ++ (part ++ (b.after ++ a.after)) =
    ap (λ t. t ++ a.after) b.whole ∙ append_assoc b.before (part ++ b.after) a.after ∙ ap (λ t. b.before ++ t) (append_assoc part b.after a.after) in
    record {
      before = a.before ++ b.before;
      after = b.after ++ a.after;
      whole = a.whole ∙ ap (λ t. a.before ++ t) inner ∙ sym (append_assoc a.before b.before (part ++ (b.after ++ a.after)));
    }

-- a part of an end is a part of the text
pub within : (text v rest : List ℕ) → text ≡ v ++ rest → (part : Option (Bor (List ℕ))) → IfSome part (λ p. IsSlice rest p.now) → IfSome part (λ p. IsSlice text p.now)
within text v rest e None h = tt
within text v rest e (Some p) h = slice_of_end text v rest p.now e h
