-- What announces an extension at the end of a text, and how many digits may follow: as
-- libphonenumber has it.
use Rattle.std.specs.Prelude.{◌≡◌, ℕ, ◌≤◌, ◌==◌, ◌&&◌, not, Bool, true, false, List, [], ◌∷◌, ◌++◌}
use Rattle.std.specs.Prelude.{length, codes, map}
use Rattle.std.specs.List.{list_all, list_any}
use Rattle.phone_chars.specs.Characters.{is_one_of}
use Rattle.phone_parts.specs.Suffixes.{IsOptional, ext_words, is_dash, is_gap, is_lead, is_mark}
use Rattle.phone_parts.specs.Suffixes.{wide_ext_words}
use Rattle.phone_library_text.specs.Letters.{is_alike}

-- words that mean an extension: `ext` and its forms, the same in full width, Russian `доб`, `anexo`
abbrev pub words : List (List ℕ)
words = ext_words ++ wide_ext_words ++ (0x434 ∷ 0x43E ∷ 0x431 ∷ []) ∷ codes "anexo" ∷ []

-- signs that may mean one: x, the number sign and the tilde, each also in full width, and `int`
abbrev pub signs : List (List ℕ)
signs =
    map (λ c. c ∷ []) (120 ∷ 0xFF58 ∷ 35 ∷ 0xFF03 ∷ 126 ∷ 0xFF5E ∷ []) ++
    codes "int" ∷ (0xFF49 ∷ 0xFF4E ∷ 0xFF54 ∷ []) ∷ []

-- the text is one of the words, whatever the case of its letters
abbrev pub is_word_of : List (List ℕ) → List ℕ → Bool
is_word_of words text = list_any (is_alike text) words

-- two commas, or a semicolon: a pause, and the digits are dialled
abbrev pub pauses : List (List ℕ)
pauses = codes ",," ∷ codes ";" ∷ []

-- commas, at least one
abbrev pub are_commas : List ℕ → Bool
are_commas text = not (length text == 0) && list_all (λ c. c == 44) text

-- space, no-break space, tab
abbrev pub is_blank : ℕ → Bool
is_blank c = is_one_of (32 ∷ 0xA0 ∷ 9 ∷ []) c

-- a lead, a label, perhaps a mark, a gap
pub record IsLabelled (is_lead : ℕ → Bool) (is_label : List ℕ → Bool) (t : List ℕ) : Type 0 where
  pub lead : List ℕ
  pub label : List ℕ
  pub mark : List ℕ
  pub gap : List ℕ
  pub whole : t ≡ lead ++ (label ++ (mark ++ gap))
  pub leads : list_all is_lead lead ≡ true
  pub labels : is_label label ≡ true
  pub marks : IsOptional is_mark mark
  pub gaps : list_all is_gap gap ≡ true

-- a text announces an extension of n digits, which a number sign follows or not
pub data Announces (t : List ℕ) (n : ℕ) (signed : Bool) : Type 0 where
  -- `;ext=`, which no number sign ends
  by_parameter : is_alike t (codes ";ext=") ≡ true → n ≤ 20 → signed ≡ false → Announces t n signed
  -- a word
  by_word : IsLabelled is_lead (is_word_of words) t → n ≤ 20 → Announces t n signed
  -- a sign
  by_sign : IsLabelled is_lead (is_word_of signs) t → n ≤ 9 → Announces t n signed
  -- hyphens and spaces, where a number sign follows
  by_dashes : list_all is_dash t ≡ true → 1 ≤ length t → n ≤ 6 → signed ≡ true →
      Announces t n signed
  -- a pause
  by_pause : IsLabelled is_blank (is_word_of pauses) t → n ≤ 15 → Announces t n signed
  -- commas
  by_commas : IsLabelled is_blank are_commas t → n ≤ 9 → Announces t n signed
