-- Texts that announce an extension behind any number that ends in a digit.
use Rattle.std.specs.Prelude.{◌≡◌, ℕ, ◌==◌, Bool, true, List, ◌++◌}
use Rattle.std.specs.List.{list_all, list_any}
use Rattle.phone_chars.specs.Characters.{is_letter}
use Rattle.phone_parts.specs.Suffixes.{IsOptional, indicators, is_mark}
use Rattle.phone_parts.specs.Texts.{is_like}

-- the space of ASCII
abbrev pub is_space : ℕ → Bool
is_space c = c == 32

-- perhaps spaces, an indicator of letters in either case, perhaps a colon or a full stop, perhaps
-- spaces: such as ` ext. `, ` x`, ` Anexo `
pub record IsAnnouncement (text : List ℕ) : Type 0 where
  pub lead : List ℕ
  pub word : List ℕ
  pub mark : List ℕ
  pub gap : List ℕ
  pub whole : text ≡ lead ++ (word ++ (mark ++ gap))
  pub leads : list_all is_space lead ≡ true
  pub announces : list_any (is_like word) indicators ≡ true
  pub letters : list_all is_letter word ≡ true
  pub marks : IsOptional is_mark mark
  pub gaps : list_all is_space gap ≡ true
