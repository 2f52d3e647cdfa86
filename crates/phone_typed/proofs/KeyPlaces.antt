-- Where keys stand in a text, walked along from its front.
use Rattle.std.proofs.Common.{◌≡◌, ℕ, suc, zero, ◌+◌, ◌-◌, ◌<◌, Bool, true, false, if◌then◌else◌, List, [], ◌∷◌, ◌++◌, drop, take, length, get_or, IsUtf8, IsCharBoundary, append-nil, refl, ap, sym, ◌∙◌, arith}
use Rattle.std.proofs.Math.Seq.{drop-cons, take-suc}
use Rattle.std.proofs.lemmas.List.{append_assoc}
use Rattle.std.proofs.lemmas.Str.{IsCharBoundary-after_ascii}
use Rattle.phone_typed.specs.Keys.{is_key, up_to_key}
use Rattle.phone_typed.proofs.KeysOfTexts.{key_small}

-- no key stands in no text
pub up_to_key-nil : (n : ℕ) → up_to_key n [] ≡ []
up_to_key-nil zero = refl
up_to_key-nil (suc n) = refl

module _ (text : List ℕ) (at : ℕ) (less : at < length text) where
  abbrev byte : ℕ
  byte = get_or text at 0

  rest : drop at text ≡ byte ∷ drop (at + 1) text
  rest = let next : suc at ≡ at + 1 = omega arith in drop-cons text at 0 less ∙ ap (λ k. byte ∷ drop k text) next

  front : take (at + 1) text ≡ take at text ++ byte ∷ []
  front = let next : at + 1 ≡ suc at = omega arith in ap (λ k. take k text) next ∙ take-suc text at 0 less

  -- past a byte: a key leaves one fewer to come, another as many
  pub past : (left next : ℕ) → ¬ (left ≡ 0) → (is_key byte ≡ true → next ≡ left - 1) → (is_key byte ≡ false → next ≡ left) →
      up_to_key left (drop at text) ≡ byte ∷ up_to_key next (drop (at + 1) text)
  past zero next some key other = absurd (some refl)
  past (suc left) next some key other = ap (up_to_key (suc left)) rest ∙ at_byte (is_key byte) refl
    where
      at_byte : (b : Bool) → is_key byte ≡ b → byte ∷ up_to_key (if b then left else suc left) (drop (at + 1) text) ≡ byte ∷ up_to_key next (drop (at + 1) text)
      at_byte true e = let same : left ≡ next = omega (arith, key e) in ap (λ n. byte ∷ up_to_key n (drop (at + 1) text)) same
      at_byte false e = ap (λ n. byte ∷ up_to_key n (drop (at + 1) text)) (sym (other e))

  pub walked : (n left next : ℕ) → ¬ (left ≡ 0) → (is_key byte ≡ true → next ≡ left - 1) → (is_key byte ≡ false → next ≡ left) →
      up_to_key n text ≡ take at text ++ up_to_key left (drop at text) → up_to_key n text ≡ take (at + 1) text ++ up_to_key next (drop (at + 1) text)
  walked n left next some key other h =
      h ∙ ap (λ t. take at text ++ t) (past left next some key other) ∙ sym (append_assoc (take at text) (byte ∷ []) (up_to_key next (drop (at + 1) text)))
      ∙ ap (λ t. t ++ up_to_key next (drop (at + 1) text)) (sym front)

  -- after a key the text may be cut
  pub cut_after_key : IsUtf8 text → is_key byte ≡ true → IsCharBoundary text (at + 1)
  cut_after_key utf8 key = IsCharBoundary-after_ascii text at utf8 less (key_small byte key)

-- with no key to come, or at the end, the beginning is what was passed
pub at_key : (n at : ℕ) (text : List ℕ) → up_to_key n text ≡ take at text ++ up_to_key 0 (drop at text) → take at text ≡ up_to_key n text
at_key n at text h = sym (h ∙ append-nil (take at text))
