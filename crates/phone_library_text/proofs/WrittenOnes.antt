-- A text has one written number.
use Rattle.std.proofs.Common.{◌≡◌, ◌⊎◌, inl, inr, ℕ, ◌≤◌, ◌<◌, ◌++◌, List, Option, Some, None, option_map, encode_utf8_all, Bool, false, IsTrue, ◌↔◌, Result, Ok, length, refl, ap, ap₂, sym, subst, ◌∙◌, arith, true≢false}
use Rattle.std.proofs.lemmas.Bool.{cases_lt}
use Rattle.phone_chars.specs.Characters.{is_plus}
use Rattle.phone_values.specs.declared.error.ParseError.{ParseError}
use Rattle.phone_parts.specs.Texts.{begins}
use Rattle.phone_parts.proofs.Cores.{core_unique}
use Rattle.phone_library_text.specs.Contexts.{IsContext}
use Rattle.phone_library_text.specs.Letters.{digits_in}
use Rattle.phone_library_text.specs.NumberTexts
use Rattle.phone_library_text.specs.NumberTexts.{HasNumberText, context_in, context_name, global_part, local_part, without_subaddress}
use Rattle.phone_library_text.specs.Places.{parted}
use Rattle.phone_library_text.specs.Viable.{HasNumber, IsViable}
use Rattle.phone_library_text.specs.Written
use Rattle.phone_library_text.specs.Written.{IsWritten, IsWrittenIn, most_characters}
use Rattle.phone_library_text.specs.declared.written.WrittenNumber.{WrittenNumber}
use Rattle.phone_library_text.proofs.ExtensionOnes.{numbers_same}
use Rattle.phone_library_text.proofs.Partings.{Parting, ends_of, fronts_of, not_none}

-- ---- the text that a number is read from

same_place : (t f a g b : List ℕ) → parted context_name t ≡ Some (f, a) → parted context_name t ≡ Some (g, b) → (f ≡ g) × (a ≡ b)
same_place t f a g b e h =
    let same : Path (Option Parting) (Some (f, a)) (Some (g, b)) = sym e ∙ h in (fronts_of f a g b same, ends_of f a g b same)

one_place : (t f a : List ℕ) → parted context_name t ≡ Some (f, a) → ¬ (parted context_name t ≡ None)
one_place t f a e h = not_none (f, a) (sym e ∙ h)

same_context : (a b : List ℕ) → a ≡ b → IsContext (context_in a) → IsContext (context_in b)
same_context a b e h = subst (λ x. IsContext (context_in x)) e h

pub number_text_same : (t : List ℕ) (a b : Option (List ℕ)) → HasNumberText t a → HasNumberText t b → a ≡ b
number_text_same t a b (NumberTexts.local f x e h) (NumberTexts.local g y i k) =
    let same = same_place t f x g y e i in
    ap₂ (λ u v. Some (without_subaddress (global_part (context_in v) ++ local_part t u))) same.0 same.1
number_text_same t a b (NumberTexts.local f x e h) (NumberTexts.no_context g y i k) = absurd (k (same_context x y (same_place t f x g y e i).1 h))
number_text_same t a b (NumberTexts.local f x e h) (NumberTexts.free c i k) = absurd (one_place t f x e i)
number_text_same t a b (NumberTexts.local f x e h) (NumberTexts.nothing i k) = absurd (one_place t f x e i)
number_text_same t a b (NumberTexts.no_context f x e h) (NumberTexts.local g y i k) = absurd (h (same_context y x (same_place t g y f x i e).1 k))
number_text_same t a b (NumberTexts.no_context f x e h) (NumberTexts.no_context g y i k) = refl
number_text_same t a b (NumberTexts.no_context f x e h) (NumberTexts.free c i k) = absurd (one_place t f x e i)
number_text_same t a b (NumberTexts.no_context f x e h) (NumberTexts.nothing i k) = refl
number_text_same t a b (NumberTexts.free c e h) (NumberTexts.local g y i k) = absurd (one_place t g y i e)
number_text_same t a b (NumberTexts.free c e h) (NumberTexts.no_context g y i k) = absurd (one_place t g y i e)
number_text_same t a b (NumberTexts.free c e h) (NumberTexts.free d i k) = ap (λ x. Some (without_subaddress x)) (core_unique t c d h k)
number_text_same t a b (NumberTexts.free c e h) (NumberTexts.nothing i k) = absurd (k c h)
number_text_same t a b (NumberTexts.nothing e h) (NumberTexts.local g y i k) = absurd (one_place t g y i e)
number_text_same t a b (NumberTexts.nothing e h) (NumberTexts.no_context g y i k) = refl
number_text_same t a b (NumberTexts.nothing e h) (NumberTexts.free d i k) = absurd (h d k)
number_text_same t a b (NumberTexts.nothing e h) (NumberTexts.nothing i k) = refl

-- ---- how a number is written

abbrev as_written : List ℕ → List ℕ → Option (List ℕ) → Result WrittenNumber ParseError
as_written n front extension =
    Ok (record { has_plus = begins is_plus n; digits = digits_in front; extension = option_map encode_utf8_all extension })

written_in_same : (n : List ℕ) (a b : Result WrittenNumber ParseError) → IsWrittenIn n a → IsWrittenIn n b → a ≡ b
written_in_same n a b (Written.not_viable v) (Written.not_viable w) = refl
written_in_same n a b (Written.not_viable v) (Written.number g y w k) = absurd (v w)
written_in_same n a b (Written.number f x v h) (Written.not_viable w) = absurd (w v)
written_in_same n a b (Written.number f x v h) (Written.number g y w k) =
    let same = numbers_same n f g x y h k in ap₂ (as_written n) same.0 same.1

same_text : (t n m : List ℕ) → HasNumberText t (Some n) → HasNumberText t (Some m) → n ≡ m
same_text t n m h k = let same : Some n ≡ Some m = number_text_same t (Some n) (Some m) h k in cc

no_text : (t n : List ℕ) → HasNumberText t None → ¬ (HasNumberText t (Some n))
no_text t n h k = let same : None ≡ Some n = number_text_same t None (Some n) h k in cc

long : (t : List ℕ) → most_characters < length t → ¬ (length t ≤ most_characters)
long t less le = omega (arith, less, le)

pub written_same : (t : List ℕ) (a b : Result WrittenNumber ParseError) → IsWritten t a → IsWritten t b → a ≡ b
written_same t a b (Written.too_long l) (Written.too_long m) = refl
written_same t a b (Written.too_long l) (Written.nothing m k) = absurd (long t l m)
written_same t a b (Written.too_long l) (Written.something m v le k w) = absurd (long t l le)
written_same t a b (Written.nothing l h) (Written.too_long m) = absurd (long t m l)
written_same t a b (Written.nothing l h) (Written.nothing m k) = refl
written_same t a b (Written.nothing l h) (Written.something m v le k w) = absurd (no_text t m h k)
written_same t a b (Written.something n u l h i) (Written.too_long m) = absurd (long t m l)
written_same t a b (Written.something n u l h i) (Written.nothing m k) = absurd (no_text t n k h)
written_same t a b (Written.something n u l h i) (Written.something m v le k w) =
    written_in_same n a b i (subst (λ x. IsWrittenIn x b) (sym (same_text t n m h k)) w)

-- ---- how a number is written, told part by part

pub written_as : (n front : List ℕ) (extension : Option (List ℕ)) (plus : Bool) (digits : List ℕ) (told : Option (List ℕ)) → IsViable n →
    HasNumber n front extension → plus ≡ begins is_plus n → digits ≡ digits_in front → told ≡ option_map encode_utf8_all extension →
    IsWrittenIn n (Ok (record { has_plus = plus; digits = digits; extension = told }))
written_as n front extension plus digits told v h e f g = rw (e, f, g) (Written.number front extension v h)

-- a text is as long as may be, or not
pub not_long : (b : Bool) (n : ℕ) → IsTrue b ↔ (most_characters < n) → b ≡ false → n ≤ most_characters
not_long b n iff e = at (cases_lt most_characters n)
  where
    at : (most_characters < n) ⊎ (n ≤ most_characters) → n ≤ most_characters
    at (inl less) = absurd (true≢false (sym (iff.1 less) ∙ e))
    at (inr le) = le
