-- The `tel:` form of a number: after RFC 3966, section 3, but looser, as the original's
-- `parser/rfc3966` is.
use Rattle.std.specs.Prelude.{◌≡◌, ◌⊎◌, ℕ, ◌==◌, ◌||◌, Bool, true, false, not, if◌then◌else◌, List}
use Rattle.std.specs.Prelude.{[], ◌∷◌, ◌++◌, reverse, codes, Option, Some, None, option_map}
use Rattle.std.specs.Char.{is_ascii_hexdigit, is_ascii_alphanumeric}
use Rattle.std.specs.List.{list_any, list_all, find}
use Rattle.std.specs.Option.{option_or}
use Rattle.std.specs.Str.{bytes_eq}
use Rattle.phone_chars.specs.Characters.{is_one_of}
use Rattle.phone_parts.specs.Parts.{Parts}
use Rattle.phone_parts.specs.Texts.{begins, is_like}

-- the separators of this form: hyphen, full stop, brackets
abbrev pub is_visual : ℕ → Bool
is_visual c = is_one_of (45 ∷ 46 ∷ 40 ∷ 41 ∷ []) c

-- RFC 3966's `phonedigit`, with hexadecimal letters: what makes the national part
abbrev pub is_phonedigit : ℕ → Bool
is_phonedigit c = is_ascii_hexdigit c || is_visual c

-- a parameter's name has letters, digits and hyphens, and may be empty
abbrev pub is_name_char : ℕ → Bool
is_name_char c = is_ascii_alphanumeric c || (c == 45)

-- its value has letters, digits, and these marks, and may be empty
abbrev pub is_value_char : ℕ → Bool
is_value_char c = is_ascii_alphanumeric c || is_one_of (codes "-_.!~*'()[]/:&+$") c

-- a parameter: `;name=value`
pub record Parameter : Type 0 where
  pub name : List ℕ
  pub value : List ℕ

-- `;name=value` stands at the front of the text, its value as long as can be, and `rest` follows it
pub record BeginsWith (p : Parameter) (text rest : List ℕ) : Type 0 where
  pub whole : text ≡ 59 ∷ (p.name ++ 61 ∷ (p.value ++ rest))
  pub named : list_all is_name_char p.name ≡ true
  pub valued : list_all is_value_char p.value ≡ true
  pub longest : begins is_value_char rest ≡ false

-- the longest list of parameters at the front of the text; what follows it is ignored
pub data HasParameters : List ℕ → List Parameter → Type 0 where
  no_more : (text : List ℕ) → ((p : Parameter) (rest : List ℕ) → ¬ (BeginsWith p text rest)) →
      HasParameters text []
  one_more : (p : Parameter) (ps : List Parameter) (text rest : List ℕ) → BeginsWith p text rest →
      HasParameters rest ps → HasParameters text (p ∷ ps)

-- of parameters with one name the last counts; names are compared exactly
abbrev pub value_of : List ℕ → List Parameter → Option (List ℕ)
value_of name ps = option_map (λ (p : Parameter). p.value)
    (find (λ (p : Parameter). bytes_eq p.name name) (reverse ps))

-- the text without one plus sign at its front
abbrev pub without_plus : List ℕ → List ℕ
without_plus [] = []
without_plus (c ∷ cs) = if c == 43 then cs else c ∷ cs

-- a plus sign and the run after it; where no plus sign stands, nothing
pub data IsSignedRun (rest : List ℕ) : List ℕ → Option (List ℕ) → Type 0 where
  unsigned : begins (λ c. c == 43) rest ≡ false → IsSignedRun rest [] None
  signed : (run : List ℕ) → begins (λ c. not (is_visual c)) run ≡ true →
      list_all (λ c. not (is_visual c)) run ≡ true →
      begins (λ c. not (is_visual c)) rest ≡ false → IsSignedRun rest (43 ∷ run) (Some run)

-- t has no space and is: `tel:` in any case or nothing; where a plus sign follows, that sign and
-- the longest run without separators; the longest run of hexadecimal digits and separators, the
-- national part; nothing, or a semicolon and what follows it, of which the longest list of
-- parameters at its front counts. Neither run is empty. The prefix is the run, else the value of
-- `phone-context` without a plus sign
pub record IsTel (t : List ℕ) (parts : Parts) : Type 0 where
  pub scheme : List ℕ
  pub signed_run : List ℕ
  pub run : Option (List ℕ)
  pub tail : List ℕ
  pub parameters : List Parameter
  pub no_space : list_any (λ c. c == 32) t ≡ false
  pub whole : t ≡ scheme ++ (signed_run ++ (parts.national ++ tail))
  pub is_scheme : (scheme ≡ []) ⊎ (is_like scheme (codes "tel:") ≡ true)
  pub is_run : IsSignedRun (parts.national ++ tail) signed_run run
  pub some_national : begins is_phonedigit parts.national ≡ true
  pub all_national : list_all is_phonedigit parts.national ≡ true
  pub longest : begins is_phonedigit tail ≡ false
  pub is_tail : (tail ≡ []) ⊎ (begins (λ c. c == 59) tail ≡ true)
  pub has_parameters : HasParameters tail parameters
  pub prefix : parts.prefix ≡ option_or run (option_map without_plus
      (value_of (codes "phone-context") parameters))
  pub extension : parts.extension ≡ value_of (codes "ext") parameters
