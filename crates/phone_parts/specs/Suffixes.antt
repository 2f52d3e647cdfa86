-- The three forms of an extension at the end of a text, after the pattern for them in the
-- original's `consts`. Letters are compared by simple folding.
use Rattle.std.specs.Prelude.{◌≡◌, ℕ, ◌≤◌, ◌<◌, ◌==◌, Bool, true, ◌||◌, List, [], ◌∷◌, ◌++◌}
use Rattle.std.specs.Prelude.{length, drop, codes, map}
use Rattle.std.specs.List.{list_all, list_any}
use Rattle.phone_chars.specs.Characters.{is_digit, is_nd, is_one_of}
use Rattle.phone_parts.specs.Texts.{is_like}
use Rattle.phone_parts.specs.declared.suffix.Form.{Form}
use Rattle.phone_parts.specs.declared.suffix.Form.TheVariants.{Parameter, Indicated, NumberSign}
use Rattle.ucd_case.specs.CaseFolding.{simple_fold}

-- every text of the first list followed by every text of the second
abbrev pub joined : List (List ℕ) → List (List ℕ) → List (List ℕ)
joined [] ends = []
joined (front ∷ fronts) ends = map (λ end. front ++ end) ends ++ joined fronts ends

-- the text, or nothing
abbrev pub maybe : List ℕ → List (List ℕ)
maybe text = [] ∷ text ∷ []

-- `xt` with an optional `e` before it, then optionally `ensio`, also with an accent on its `o`,
-- then an optional `n`
abbrev pub ext_words : List (List ℕ)
ext_words =
    joined (maybe (codes "e")) (joined (codes "xt" ∷ [])
    (joined ([] ∷ codes "ensio" ∷ (codes "ensio" ++ 0x301 ∷ []) ∷ (codes "ensi" ++ 0xF3 ∷ []) ∷ [])
    (maybe (codes "n"))))

-- fullwidth `xt`, with an optional fullwidth `e` before it and `n` after it
abbrev pub wide_ext_words : List (List ℕ)
wide_ext_words = joined (maybe (0xFF45 ∷ []))
    (joined ((0xFF58 ∷ 0xFF54 ∷ []) ∷ []) (maybe (0xFF4E ∷ [])))

-- one of , ; x # ~ and the fullwidth x, number sign and tilde
abbrev pub indicator_signs : List ℕ
indicator_signs = 44 ∷ 59 ∷ 120 ∷ 0xFF58 ∷ 35 ∷ 0xFF03 ∷ 126 ∷ 0xFF5E ∷ []

-- `int`, `anexo`, fullwidth `int`
abbrev pub other_words : List (List ℕ)
other_words = codes "int" ∷ codes "anexo" ∷ (0xFF49 ∷ 0xFF4E ∷ 0xFF54 ∷ []) ∷ []

-- what announces an extension
abbrev pub indicators : List (List ℕ)
indicators = ext_words ++ wide_ext_words ++ map (λ c. c ∷ []) indicator_signs ++ other_words

-- before an indicator: space, no-break space, tab, comma
abbrev pub is_lead : ℕ → Bool
is_lead c = is_one_of (32 ∷ 0xA0 ∷ 9 ∷ 44 ∷ []) c

-- right after an indicator: colon, full stop, fullwidth full stop
abbrev pub is_mark : ℕ → Bool
is_mark c = is_one_of (58 ∷ 46 ∷ 0xFF0E ∷ []) c

-- before the digits: space, no-break space, tab, comma, hyphen
abbrev pub is_gap : ℕ → Bool
is_gap c = is_one_of (32 ∷ 0xA0 ∷ 9 ∷ 44 ∷ 45 ∷ []) c

-- hyphen, space: before the digits of the form with a number sign
abbrev pub is_dash : ℕ → Bool
is_dash c = is_one_of (45 ∷ 32 ∷ []) c

-- the number sign
abbrev pub is_sign : ℕ → Bool
is_sign c = c == 35

-- at most n characters, all of the set
pub record IsFew (p : ℕ → Bool) (n : ℕ) (t : List ℕ) : Type 0 where
  pub only : list_all p t ≡ true
  pub few : length t ≤ n

-- digits of any script, at most n
abbrev pub IsDigits : ℕ → List ℕ → Type 0
IsDigits n d = IsFew is_nd n d

-- one character of the set, or nothing
abbrev pub IsOptional : (ℕ → Bool) → List ℕ → Type 0
IsOptional p t = IsFew p 1 t

-- `;ext=` and at most seven digits
pub record IsParameter (w d : List ℕ) : Type 0 where
  pub name : List ℕ
  pub whole : w ≡ name ++ d
  pub named : is_like name (codes ";ext=") ≡ true
  pub digits : IsDigits 7 d

-- perhaps a mark, a gap, at most seven digits, perhaps a number sign
pub record IsEnding (w d : List ℕ) : Type 0 where
  pub mark : List ℕ
  pub gap : List ℕ
  pub sign : List ℕ
  pub whole : w ≡ mark ++ (gap ++ (d ++ sign))
  pub marks : IsOptional is_mark mark
  pub gaps : list_all is_gap gap ≡ true
  pub digits : IsDigits 7 d
  pub signs : IsOptional is_sign sign

-- such a text, whatever its digits
abbrev pub IsSomeEnding : List ℕ → Type 0
IsSomeEnding w = (d : List ℕ) × IsEnding w d

-- one of the words, and such an ending
pub record IsAnnounced (words : List (List ℕ)) (w d : List ℕ) : Type 0 where
  pub word : List ℕ
  pub ending : List ℕ
  pub whole : w ≡ word ++ ending
  pub announces : list_any (is_like word) words ≡ true
  pub ends : IsEnding ending d

-- a lead, an indicator, an ending
pub record IsIndicated (w d : List ℕ) : Type 0 where
  pub lead : List ℕ
  pub rest : List ℕ
  pub whole : w ≡ lead ++ rest
  pub leads : list_all is_lead lead ≡ true
  pub announced : IsAnnounced indicators rest d

-- hyphens and spaces, one to five digits, a number sign
pub record IsNumberSigned (w d : List ℕ) : Type 0 where
  pub lead : List ℕ
  pub whole : w ≡ lead ++ (d ++ 35 ∷ [])
  pub leads : list_all is_dash lead ≡ true
  pub some_lead : 1 ≤ length lead
  pub digits : IsDigits 5 d
  pub some_digits : 1 ≤ length d

-- such a text, whatever its digits
abbrev pub IsSomeNumberSigned : List ℕ → Type 0
IsSomeNumberSigned w = (d : List ℕ) × IsNumberSigned w d

-- w is an extension of this form, with these digits
abbrev pub IsSuffix : List ℕ → Form → List ℕ → Type 0
IsSuffix w Parameter d = IsParameter w d
IsSuffix w Indicated d = IsIndicated w d
IsSuffix w NumberSign d = IsNumberSigned w d

-- w is an extension of some form, with these digits
abbrev pub IsSomeSuffix : List ℕ → List ℕ → Type 0
IsSomeSuffix w d = (f : Form) × IsSuffix w f d

-- the foldings of the characters that an extension begins with
abbrev pub suffix_starts : List ℕ
suffix_starts =
    32 ∷ 9 ∷ 0xA0 ∷ 44 ∷ 45 ∷ 59 ∷ 35 ∷ 126 ∷ 120 ∷ 101 ∷ 105 ∷ 97 ∷ 0xFF03 ∷ 0xFF5E ∷ 0xFF58 ∷
    0xFF45 ∷ 0xFF49 ∷ []

-- the character folds to one of these
abbrev pub is_suffix_start : ℕ → Bool
is_suffix_start c = is_one_of suffix_starts (simple_fold c)

-- the foldings of characters of which each extension has one: they begin the indicators and the
-- parameter, or are the number sign
abbrev pub announcers : List ℕ
announcers =
    44 ∷ 59 ∷ 35 ∷ 126 ∷ 120 ∷ 101 ∷ 105 ∷ 97 ∷ 0xFF03 ∷ 0xFF5E ∷ 0xFF58 ∷ 0xFF45 ∷ 0xFF49 ∷ []

-- the character folds to one of these
abbrev pub announces : ℕ → Bool
announces c = is_one_of announcers (simple_fold c)

-- what most numbers are made of: digits, spaces, round brackets, plus signs, hyphens, full stops,
-- slashes
abbrev pub is_plain : ℕ → Bool
is_plain c = is_digit c || is_one_of (32 ∷ 40 ∷ 41 ∷ 43 ∷ 45 ∷ 46 ∷ 47 ∷ []) c

-- no end of the text is an extension
abbrev pub HasNoSuffix : List ℕ → Type 0
HasNoSuffix c = (k : ℕ) (f : Form) (d : List ℕ) → ¬ (IsSuffix (drop k c) f d)

-- the text is `before` and its longest end that is an extension, of whatever form, with digits d
pub record HasLongestSuffix (c before d : List ℕ) : Type 0 where
  pub suffix : List ℕ
  pub whole : c ≡ before ++ suffix
  pub is_suffix : IsSomeSuffix suffix d
  pub longest : (k : ℕ) (f : Form) (e : List ℕ) → k < length before → ¬ (IsSuffix (drop k c) f e)
