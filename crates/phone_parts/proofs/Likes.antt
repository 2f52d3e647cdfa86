-- Texts that are like a word.
use Rattle.std.proofs.Common.{◌≡◌, ℕ, Bool, true, false, cond, List, [], ◌∷◌, ◌++◌, Some, None, IsUtf8, encode_utf8_all, refl, ap, sym, ◌∙◌, true≢false}
use Rattle.std.proofs.lemmas.Bool.{and_parts}
use Rattle.std.proofs.lemmas.Slice.Eq.{bytes_eq-Decides}
use Rattle.std.proofs.lemmas.Str.{encodes-chars}
use Rattle.std.specs.Bool.{Decides, one_answer}
use Rattle.std.specs.Str.{bytes_eq, chars}
use Rattle.phone_chars.specs.Characters.{same_fold}
use Rattle.phone_parts.specs.Texts.{is_like, after_like}

-- what follows a front that is like the word
pub after_like_front : (name word rest : List ℕ) → is_like name word ≡ true → after_like (name ++ rest) word ≡ Some rest
after_like_front [] [] rest h = refl
after_like_front [] (w ∷ ws) rest h = absurd (true≢false (sym h))
after_like_front (c ∷ cs) [] rest h = absurd (true≢false (sym h))
after_like_front (c ∷ cs) (w ∷ ws) rest h =
    let parts = and_parts (same_fold c w) (is_like cs ws) h in
    rw parts.0 (after_like_front cs ws rest parts.1)

pub record IsAfterLike (text word rest : List ℕ) : Type 0 where
  pub name : List ℕ
  pub whole : text ≡ name ++ rest
  pub like : is_like name word ≡ true

pub after_like_parts : (text word rest : List ℕ) → after_like text word ≡ Some rest → IsAfterLike text word rest
after_like_parts text [] rest e = let same : text ≡ rest = cc in record { name = []; whole = same; like = refl }
after_like_parts [] (w ∷ ws) rest e = absurd (cc)
after_like_parts (c ∷ cs) (w ∷ ws) rest e = at_head (same_fold c w) refl e (after_like_parts cs ws rest)
  where
    at_head : (b : Bool) → same_fold c w ≡ b → cond b (after_like cs ws) None ≡ Some rest →
        (after_like cs ws ≡ Some rest → IsAfterLike cs ws rest) → IsAfterLike (c ∷ cs) (w ∷ ws) rest
    at_head true f e h = let r = h e in record { name = c ∷ r.name; whole = ap (λ t. c ∷ t) r.whole; like = rw f r.like }
    at_head false f e h = absurd (cc)

-- texts are one where their characters are
pub same_chars : (a b : List ℕ) → IsUtf8 a → IsUtf8 b → chars a ≡ chars b → a ≡ b
same_chars a b u v e = sym (encodes-chars a u) ∙ ap encode_utf8_all e ∙ encodes-chars b v

pub chars_eq_bytes_eq : (r : Bool) (a b : List ℕ) → IsUtf8 a → IsUtf8 b → Decides r (a ≡ b) → r ≡ bytes_eq (chars a) (chars b)
chars_eq_bytes_eq r a b u v d =
    let e = bytes_eq-Decides (chars a) (chars b) in
    one_answer {P = a ≡ b} r (bytes_eq (chars a) (chars b)) d ((λ t. same_chars a b u v (e.0 t)), (λ s. e.1 (ap chars s)))
