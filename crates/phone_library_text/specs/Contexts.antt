-- The context of a local number in a `tel:` text, which says where the number is dialled: RFC 3966,
-- section 5.1.5, as libphonenumber takes it.
use Rattle.std.specs.Prelude.{◌≡◌, ◌⊎◌, ℕ, ◌==◌, ◌||◌, ◌&&◌, Bool, true, List, [], ◌∷◌, ◌++◌}
use Rattle.std.specs.List.{list_all, list_any}
use Rattle.phone_chars.specs.Characters.{is_alpha, is_nd, is_one_of}
use Rattle.phone_parts.specs.Texts.{begins, ends}

-- digits of any script and visual separators may follow a plus sign
abbrev pub may_follow : ℕ → Bool
may_follow c = is_nd c || is_one_of (45 ∷ 46 ∷ 40 ∷ 41 ∷ []) c

-- such characters, with at least one digit
abbrev pub are_global_digits : List ℕ → Bool
are_global_digits t = list_all may_follow t && list_any is_nd t

-- a plus sign, and then such characters
pub record IsGlobal (t : List ℕ) : Type 0 where
  pub rest : List ℕ
  pub whole : t ≡ 43 ∷ rest
  pub digits : are_global_digits rest ≡ true

-- a letter of ASCII or a digit of any script
abbrev pub is_alphanumeric : ℕ → Bool
is_alphanumeric c = is_alpha c || is_nd c

-- a label of a domain's name: such characters and hyphens, with no hyphen at either end
abbrev pub is_label : List ℕ → Bool
is_label t = list_all (λ c. is_alphanumeric c || (c == 45)) t && begins is_alphanumeric t &&
    ends is_alphanumeric t

-- a domain's name: a label that begins with a letter, perhaps with a full stop after it; or a
-- label, a full stop and a domain's name
pub data IsDomain : List ℕ → Type 0 where
  last : (l : List ℕ) → is_label l ≡ true → begins is_alpha l ≡ true → IsDomain l
  stopped : (l : List ℕ) → is_label l ≡ true → begins is_alpha l ≡ true → IsDomain (l ++ 46 ∷ [])
  more : (l t : List ℕ) → is_label l ≡ true → IsDomain t → IsDomain (l ++ 46 ∷ t)

-- a context: a global number's digits, or a domain's name
abbrev pub IsContext : List ℕ → Type 0
IsContext t = IsGlobal t ⊎ IsDomain t
