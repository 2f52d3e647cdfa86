-- Whether letters became digits, by the one way in which a text is written.
use Rattle.std.proofs.Common.{◌≡◌, ◌⊎◌, inl, inr, ◌↔◌, ◌<◌, ℕ, Bool, true, false, IsTrue, List, length, Option, Some, None, Result, Ok, Err, IfOk, sym, subst, ◌∙◌, true≢false}
use Rattle.std.specs.List.{filter_map, list_any}
use Rattle.phone_chars.specs.Characters.{is_alpha}
use Rattle.phone_library_text.proofs.WrittenOnes.{written_same}
use Rattle.phone_library_text.specs.Letters.{value_of}
use Rattle.phone_library_text.specs.Written.{IsWritten}
use Rattle.phone_library_text.specs.declared.written.WrittenNumber.{WrittenNumber}
use Rattle.phone_parts.proofs.OneParts.{parts_same}
use Rattle.phone_parts.specs.Parts.{Parts}
use Rattle.phone_parts.specs.Readers.{HasParts}
use Rattle.phone_values.specs.declared.error.ParseError.{ParseError}
use Rattle.phone_values.specs.declared.error.ParseError.TheVariants.{Memory}
use Rattle.phone_values.specs.declared.rules.Rules.TheVariants.{Library, Crate}
use Rattle.phone_doubts.specs.Lettered
use Rattle.phone_doubts.specs.Lettered.{HasLetters}

-- fewer digits stand in the text than in a number
abbrev pub IsShort : List ℕ → WrittenNumber → Type 0
IsShort t w = length (filter_map value_of t) < length w.digits

is_short : (t : List ℕ) (w : WrittenNumber) → IsWritten t (Ok w) → HasLetters t Library → IsShort t w
is_short t w written (Lettered.library v g l) =
    let e : Ok v ≡ Ok w = written_same t (Ok v) (Ok w) g written in
    let same : v ≡ w = cc in
    subst (λ (u : WrittenNumber). IsShort t u) same l

-- a text with a number
pub written_so : {E : Type 0} (t : List ℕ) (x : Result WrittenNumber ParseError) (w : WrittenNumber) → x ≡ Ok w → (x ≡ Err Memory) ⊎ IsWritten t x →
    (r : Result Bool E) → IfOk r (λ b. IsTrue b ↔ IsShort t w) → IfOk r (λ b. IsTrue b ↔ HasLetters t Library)
written_so t x w is (inl e) r h = absurd (let bad : Ok w ≡ Err Memory = sym is ∙ e in cc)
written_so t x w is (inr written) (Ok b) h =
    let now : IsWritten t (Ok w) = subst (λ y. IsWritten t y) is written in
    (λ yes. Lettered.library w now (h.0 yes), λ has. h.1 (is_short t w now has))
written_so t x w is (inr written) (Err e) h = h

none_written : (t : List ℕ) (e : ParseError) → IsWritten t (Err e) → ¬ (HasLetters t Library)
none_written t e written (Lettered.library v g l) = let bad : Ok v ≡ Err e = written_same t (Ok v) (Err e) g written in cc

-- a text without one
pub unwritten_so : {E : Type 0} (t : List ℕ) (x : Result WrittenNumber ParseError) (e : ParseError) → x ≡ Err e → (x ≡ Err Memory) ⊎ IsWritten t x →
    (r : Result Bool E) → IfOk r (λ b. (b ≡ false) × ¬ (e ≡ Memory)) → IfOk r (λ b. IsTrue b ↔ HasLetters t Library)
unwritten_so t x e is (inl f) (Ok b) h = absurd (h.1 (let bad : Err e ≡ Err Memory = sym is ∙ f in cc))
unwritten_so t x e is (inr written) (Ok b) h =
    (λ so. absurd (true≢false (sym so ∙ h.0)), λ has. absurd (none_written t e (subst (λ y. IsWritten t y) is written) has))
unwritten_so t x e is why (Err f) h = h

has_letter : (t : List ℕ) (p : Parts) → HasParts t (Some p) → HasLetters t Crate → list_any is_alpha p.national ≡ true
has_letter t p parts (Lettered.crate q g l) =
    let e : Some q ≡ Some p = parts_same t (Some q) (Some p) g parts in
    let same : q ≡ p = cc in
    subst (λ (u : Parts). list_any is_alpha u.national ≡ true) same l

-- a text with parts
pub parts_so : (t : List ℕ) (o : Option Parts) (p : Parts) → o ≡ Some p → HasParts t o → (b : Bool) → b ≡ list_any is_alpha p.national → IsTrue b ↔ HasLetters t Crate
parts_so t o p is parts b e =
    let now : HasParts t (Some p) = subst (λ y. HasParts t y) is parts in
    (λ yes. Lettered.crate p now (sym e ∙ yes), λ has. e ∙ has_letter t p now has)

no_parts : (t : List ℕ) → HasParts t None → ¬ (HasLetters t Crate)
no_parts t parts (Lettered.crate q g l) = let bad : Some q ≡ None = parts_same t (Some q) None g parts in cc

-- a text without
pub no_parts_so : (t : List ℕ) (o : Option Parts) → o ≡ None → HasParts t o → IsTrue false ↔ HasLetters t Crate
no_parts_so t o is parts = (λ no. absurd (true≢false (sym no)), λ has. absurd (no_parts t (subst (λ y. HasParts t y) is parts) has))
