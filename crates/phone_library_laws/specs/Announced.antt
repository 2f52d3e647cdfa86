-- Which extensions are read where they are printed.
use Rattle.std.specs.Prelude.{◌≡◌, ℕ, ◌≤◌, true, false, List, [], ◌∷◌, length, chars, codes}
use Rattle.std.specs.Prelude.{Option, None, Some, unwrap_or, IsUtf8}
use Rattle.std.specs.List.{list_all, list_any}
use Rattle.phone_chars.specs.Characters.{is_nd, is_one_of}
use Rattle.phone_library_text.specs.Announcements.{Announces}
use Rattle.phone_records.specs.declared.loader.Metadata.{Metadata}

-- digits of any script, one at least
pub record IsDigits (e : List ℕ) : Type 0 where
  pub utf8 : IsUtf8 e
  pub digits : list_all is_nd (chars e) ≡ true
  pub some : 1 ≤ length (chars e)

-- the extension is digits, and the text before it announces so many; no slash and no semicolon
-- stands in that
pub record IsAnnounced (w e : List ℕ) : Type 0 where
  pub digits : IsDigits e
  pub utf8 : IsUtf8 w
  pub announces : Announces (chars w) (length (chars e)) false
  pub plain : list_any (is_one_of (47 ∷ 59 ∷ 92 ∷ [])) (chars w) ≡ false

-- where there is an extension, it is announced so
abbrev pub IsAnnouncedIfAny : List ℕ → Option (List ℕ) → Type 0
IsAnnouncedIfAny w None = Unit {0}
IsAnnouncedIfAny w (Some e) = IsAnnounced w e

-- what a territory's numbers are announced by: its preferred prefix, else ` ext. `
abbrev pub prefix_of : Metadata → List ℕ
prefix_of m = unwrap_or m.preferred_extension_prefix (codes " ext. ")

-- where there is an extension, it is up to 20 digits: RFC 3966 announces it by `;ext=`
abbrev pub IsParameterIfAny : Option (List ℕ) → Type 0
IsParameterIfAny None = Unit {0}
IsParameterIfAny (Some e) = IsDigits e × (length (chars e) ≤ 20)

-- prefixes that announce up to 20 digits, by a word
abbrev pub word_prefixes : List (List ℕ)
word_prefixes = codes " ext. " ∷ codes " Anexo " ∷ []

-- prefixes that announce up to nine digits, by a sign
abbrev pub sign_prefixes : List (List ℕ)
sign_prefixes = codes " x" ∷ codes " int " ∷ codes " int. " ∷ codes "#" ∷ []
