-- Two keys are one where the E.164 texts and the extensions are.
use Rattle.std.proofs.Common.{◌≡◌, ℕ, ◌&&◌, Bool, true, false, List, [], ◌∷◌, ◌++◌, drop, get_or, Option, None, Some}
use Rattle.std.proofs.Common.{refl, ap, ap₂, sym, ◌∙◌, true≢false, arith}
use Rattle.std.proofs.lemmas.Bool.{and_from, and_parts}
use Rattle.std.proofs.lemmas.List.Folds.{list_all-append}
use Rattle.std.specs.Fmt.{decimal}
use Rattle.std.specs.List.{list_all}
use Rattle.phone_chars.specs.Characters.{is_digit}
use Rattle.phone_values.specs.Numbers.{text_of}
use Rattle.phone_values.specs.declared.reading.Reading.{Reading}
use Rattle.phone_print.specs.Texts.{e164_text, extension_parameter}
use Rattle.phonenumber.proofs.BackNumbers.{list_all-decimal, list_all-text_of}
use Rattle.phonenumber.specs.Bounds.{IsBounded}
use Rattle.phone_book.specs.Keys.{key_text}

-- a parameter tells its extension
parameter_same : (u v : Option (List ℕ)) → extension_parameter u ≡ extension_parameter v → u ≡ v
parameter_same None None e = refl
parameter_same None (Some y) e = cc
parameter_same (Some x) None e = cc
parameter_same (Some x) (Some y) e = ap (λ t. Some (drop 5 t)) e

-- a parameter begins with no digit
no_digit : (y : ℕ) (ys : List ℕ) (u : Option (List ℕ)) → is_digit y ≡ true → extension_parameter u ≡ y ∷ ys → ⊥
no_digit y ys None d e = cc
no_digit y ys (Some x) d e = true≢false (sym d ∙ ap is_digit (sym (ap (λ t. get_or t 0 0) e)))

-- digits with a parameter behind them are cut in one way
cut_same : (a b : List ℕ) (u v : Option (List ℕ)) → list_all is_digit a ≡ true → list_all is_digit b ≡ true →
    a ++ extension_parameter u ≡ b ++ extension_parameter v → (a ≡ b) × (u ≡ v)
cut_same [] [] u v da db e = (refl, parameter_same u v e)
cut_same [] (y ∷ b) u v da db e = absurd (no_digit y (b ++ extension_parameter v) u (and_parts (is_digit y) (list_all is_digit b) db).0 e)
cut_same (x ∷ a) [] u v da db e = absurd (no_digit x (a ++ extension_parameter u) v (and_parts (is_digit x) (list_all is_digit a) da).0 (sym e))
cut_same (x ∷ a) (y ∷ b) u v da db e =
    let rest = cut_same a b u v (and_parts (is_digit x) (list_all is_digit a) da).1 (and_parts (is_digit y) (list_all is_digit b) db).1 (ap (drop 1) e) in
    (ap₂ (λ z zs. z ∷ zs) (ap (λ t. get_or t 0 0) e) rest.0, rest.1)

digits_alone : (n : Reading) → IsBounded n → list_all is_digit (decimal n.code.value ++ text_of n.national) ≡ true
digits_alone n h = list_all-append is_digit (decimal n.code.value) (text_of n.national)
    ∙ and_from _ _ (list_all-decimal n.code.value (omega (arith, h.code))) (list_all-text_of n.national h.national)

pub key_parts : (a b : Reading) → IsBounded a → IsBounded b → key_text a ≡ key_text b → (e164_text a ≡ e164_text b) × (a.extension ≡ b.extension)
key_parts a b ha hb e =
    let parts = cut_same (decimal a.code.value ++ text_of a.national) (decimal b.code.value ++ text_of b.national) a.extension b.extension
    (digits_alone a ha) (digits_alone b hb) (ap (drop 1) e) in
    (ap (λ ds. 43 ∷ ds) parts.0, parts.1)

pub key_same : (a b : Reading) → e164_text a ≡ e164_text b → a.extension ≡ b.extension → key_text a ≡ key_text b
key_same a b text extension = ap₂ (λ t x. t ++ extension_parameter x) text extension
