-- A word at the front of a text: by its bytes, and by its characters.
use Rattle.std.proofs.Common.{◌≡◌, ◌↔◌, ℕ, Bool, IsTrue, List, ◌++◌, IsUtf8, encode_utf8_all, ap, sym, subst, ◌∙◌}
use Rattle.std.proofs.lemmas.Str.{chars-append, encodes-append, encodes-chars}
use Rattle.std.specs.Str.{chars}
use Rattle.std.specs.Str.Pattern.{FindsTextPrefix, LacksTextAt, StripsPrefix}

pub word_found : (word text after : List ℕ) → IsUtf8 word → StripsPrefix (FindsTextPrefix word) text after → chars text ≡ chars word ++ chars after
word_found word text after u h = ap chars (h.1.1 ∙ ap (λ t. word ++ t) (sym h.2)) ∙ chars-append word after u

pub word_lacks : (word text : List ℕ) → IsUtf8 word → IsUtf8 text → LacksTextAt word text 0 → (rest : List ℕ) → ¬ (chars text ≡ chars word ++ rest)
word_lacks word text u v lacks rest e =
    lacks (encode_utf8_all rest)
    (sym (encodes-chars text v) ∙ ap encode_utf8_all e ∙ encodes-append (chars word) rest ∙ ap (λ t. t ++ encode_utf8_all rest) (encodes-chars word u))

-- what follows from both
pub iff_then : (A B C : Type 0) → A ↔ B → B ↔ C → A ↔ C
iff_then A B C f g = (λ a. g.0 (f.0 a), λ c. f.1 (g.1 c))

pub iff_same : (a b : Bool) (A : Type 0) → a ≡ b → IsTrue b ↔ A → IsTrue a ↔ A
iff_same a b A e f = subst (λ x. IsTrue x ↔ A) (sym e) f
