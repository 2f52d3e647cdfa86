-- What is found in `tel:+`, ASCII digits, a hyphen, digits and hyphens, and perhaps `;ext=` with digits.
use Rattle.std.proofs.Common.{◌≡◌, ◌⊎◌, inl, inr, ⊎_elim, ℕ, ◌≤◌, ◌==◌, Bool, true, false, not, ◌||◌, List, [], ◌∷◌, ◌++◌, length, Option, Some, None, IfSome, codes, refl, ap, sym, ◌∙◌, append-nil, eqb-true}
use Rattle.std.proofs.lemmas.Bool.{not-true, or_cases}
use Rattle.std.specs.List.{list_any, list_all}
use Rattle.std.specs.Option.{option_map_or}
use Rattle.ucd_case.proofs.Computing.{ucd_case}
use Rattle.phone_chars.specs.Characters.{is_digit}
use Rattle.phone_parts.specs.Readers
use Rattle.phone_parts.specs.Readers.{HasParts}
use Rattle.phone_parts.specs.Tel
use Rattle.phone_parts.specs.Tel.{IsTel, Parameter, HasParameters, value_of, is_phonedigit, is_value_char}
use Rattle.phone_parts.specs.Texts.{begins}
use Rattle.phone_parts.proofs.Endings.{AreApart}
use Rattle.phone_parts.proofs.Ends.{all_wider}
use Rattle.phone_parts.proofs.PrintedTexts.{ascii_digits, digit_apart, digit_passes, none_apart, none_append, signed_digits}
use Rattle.phone_parts.proofs.TelRows.{no_parameters}

-- digits and hyphens, which the national part is laid out with
abbrev pub is_hyphened : ℕ → Bool
is_hyphened c = is_digit c || (c == 45)

-- a space, of which such a text has none
abbrev is_space : ℕ → Bool
is_space c = c == 32

-- what holds of the ten digits and of the hyphen holds of these
hyphened_passes : (q : ℕ → Bool) → list_all q ascii_digits ≡ true → q 45 ≡ true → (c : ℕ) → is_hyphened c ≡ true → q c ≡ true
hyphened_passes q digits hyphen c h =
    ⊎_elim (λ d. digit_passes q digits c d) (λ (e : (c == 45) ≡ true). ap q (eqb-true c 45 e) ∙ hyphen) (or_cases (is_digit c) (c == 45) h)

-- the extension as a parameter
abbrev parameter : Option (List ℕ) → List ℕ
parameter e = option_map_or (λ d. codes ";ext=" ++ d) e []

-- the list of parameters that this is
abbrev parameters : Option (List ℕ) → List Parameter
parameters None = []
parameters (Some d) = record { name = codes "ext"; value = d } ∷ []

has_parameters : (e : Option (List ℕ)) → IfSome e (λ d. list_all is_digit d ≡ true) → HasParameters (parameter e) (parameters e)
has_parameters None digits = no_parameters
has_parameters (Some d) digits =
    Tel.one_more (record { name = codes "ext"; value = d }) [] (codes ";ext=" ++ d) []
    (record {
      whole = ap (λ t. codes ";ext=" ++ t) (sym (append-nil d));
      named = refl;
      valued = all_wider is_digit is_value_char (digit_passes is_value_char refl) d digits;
      longest = refl;
    }) no_parameters

-- what follows the national part is no more of it
not_national : (e : Option (List ℕ)) → begins is_phonedigit (parameter e) ≡ false
not_national None = refl
not_national (Some d) = refl

is_tail : (e : Option (List ℕ)) → (parameter e ≡ []) ⊎ (begins (λ c. c == 59) (parameter e) ≡ true)
is_tail None = inl refl
is_tail (Some d) = inr refl

extension_value : (e : Option (List ℕ)) → e ≡ value_of (codes "ext") (parameters e)
extension_value None = refl
extension_value (Some d) = refl

no_space_behind : (e : Option (List ℕ)) → IfSome e (λ d. list_all is_digit d ≡ true) → list_any is_space (parameter e) ≡ false
no_space_behind None digits = refl
no_space_behind (Some d) digits = none_apart is_space is_digit (digit_apart is_space refl) d digits

-- the run after the plus sign is the prefix, and the hyphen and what is laid out behind it the national part
pub is_tel : (code national : List ℕ) (extension : Option (List ℕ)) → list_all is_digit code ≡ true → 1 ≤ length code → list_all is_hyphened national ≡ true →
    IfSome extension (λ d. list_all is_digit d ≡ true) →
    IsTel (codes "tel:+" ++ (code ++ 45 ∷ (national ++ parameter extension))) (record { national = 45 ∷ national; prefix = Some code; extension = extension })
unfolding ucd_case
is_tel code national extension digits some hyphened value =
    let apart : AreApart is_space is_hyphened = λ c h. not-true (is_space c) (hyphened_passes (λ x. not (is_space x)) refl refl c h) in
    record {
      scheme = codes "tel:";
      signed_run = 43 ∷ code;
      run = Some code;
      tail = parameter extension;
      parameters = parameters extension;
      no_space = none_append is_space code (45 ∷ (national ++ parameter extension)) (none_apart is_space is_digit (digit_apart is_space refl) code digits)
          (none_append is_space national (parameter extension) (none_apart is_space is_hyphened apart national hyphened) (no_space_behind extension value));
      whole = refl;
      is_scheme = inr refl;
      is_run = signed_digits code ((45 ∷ national) ++ parameter extension) digits some refl;
      some_national = refl;
      all_national = all_wider is_hyphened is_phonedigit (hyphened_passes is_phonedigit refl refl) national hyphened;
      longest = not_national extension;
      is_tail = is_tail extension;
      has_parameters = has_parameters extension value;
      prefix = refl;
      extension = extension_value extension;
    }

-- so it is read as a `tel:` text
pub rfc3966_parts : (code national : List ℕ) (extension : Option (List ℕ)) → list_all is_digit code ≡ true → 1 ≤ length code → list_all is_hyphened national ≡ true →
    IfSome extension (λ d. list_all is_digit d ≡ true) →
    HasParts (codes "tel:+" ++ (code ++ 45 ∷ (national ++ parameter extension))) (Some (record { national = 45 ∷ national; prefix = Some code; extension = extension }))
rfc3966_parts code national extension digits some hyphened value =
    Readers.as_tel (record { national = 45 ∷ national; prefix = Some code; extension = extension }) (is_tel code national extension digits some hyphened value)
