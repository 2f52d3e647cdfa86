-- What the search for an extension asks of an end of a text, as functions of that end: each is told
-- by the same of what follows the end's first character.
use Rattle.std.specs.Prelude.{◌≡◌, ℕ, ◌==◌, ◌||◌, ◌&&◌, not, nat_le, Bool, true, false}
use Rattle.std.specs.Prelude.{if◌then◌else◌, List, [], ◌∷◌, ◌++◌, length, codes, map, Option, None}
use Rattle.std.specs.Prelude.{Some}
use Rattle.std.specs.List.{filter, list_all, list_any}
use Rattle.std.specs.Option.{option_map_or}
use Rattle.phone_chars.specs.Characters.{is_nd}
use Rattle.phone_parts.specs.Suffixes.{IsOptional, is_dash, is_gap, is_lead, is_mark, is_sign}
use Rattle.phone_parts.specs.Texts.{begins, ends}
use Rattle.phone_library_text.specs.Announcements.{is_blank, pauses, signs, words}
use Rattle.phone_library_text.specs.Letters.{folded, is_alike}
use Rattle.phone_library_text.specs.declared.announcement.Allowed.{Allowed}
use Rattle.phone_library_text.specs.declared.announcement.Seen.{Seen}

-- what follows a front of the text that is alike the word; none where no such front is there
abbrev pub after_alike : List ℕ → List ℕ → Option (List ℕ)
after_alike text [] = Some text
after_alike [] (w ∷ ws) = None
after_alike (c ∷ cs) (w ∷ ws) = if folded c == folded w then after_alike cs ws else None

-- the text has no character
abbrev pub is_nil : List ℕ → Bool
is_nil [] = true
is_nil (c ∷ cs) = false

-- gap characters alone
abbrev pub is_gap_run : List ℕ → Bool
is_gap_run t = list_all is_gap t

-- perhaps a mark, and then a gap
abbrev pub is_mark_gap : List ℕ → Bool
is_mark_gap [] = true
is_mark_gap (c ∷ cs) = (is_gap c || is_mark c) && is_gap_run cs

-- a text that is perhaps a mark, and then a gap
abbrev pub IsMarkGap : List ℕ → Type 0
IsMarkGap t = is_mark_gap t ≡ true

-- the word, perhaps a mark, a gap
abbrev pub follows : List ℕ → List ℕ → Bool
follows text word = option_map_or is_mark_gap (after_alike text word) false

-- that for one of the words
abbrev pub follows_some : List (List ℕ) → List ℕ → Bool
follows_some words text = list_any (follows text) words

-- those of the words that begin with a character of this folding
abbrev pub begun_by : ℕ → List (List ℕ) → List (List ℕ)
begun_by f words = filter (λ w. begins (λ c. f == folded c) w) words

-- the front with each of the ends behind it
abbrev pub all_behind : List ℕ → List (List ℕ) → List (List ℕ)
all_behind front ends = map (λ end. front ++ end) ends

-- the foldings of the characters that words and signs begin with
abbrev pub label_starts : List ℕ
label_starts =
    101 ∷ 120 ∷ 97 ∷ 105 ∷ 35 ∷ 126 ∷ 0x434 ∷ 0xFF45 ∷ 0xFF58 ∷ 0xFF49 ∷ 0xFF03 ∷ 0xFF5E ∷ []

-- the foldings of the characters that pauses begin with
abbrev pub pause_starts : List ℕ
pause_starts = 44 ∷ 59 ∷ []

-- characters of the set, and then what passes the test
abbrev pub is_led : (ℕ → Bool) → (List ℕ → Bool) → List ℕ → Bool
is_led p q [] = q []
is_led p q (c ∷ cs) = q (c ∷ cs) || (p c && is_led p q cs)

-- commas, at least one, perhaps a mark, a gap
abbrev pub is_comma_run : List ℕ → Bool
is_comma_run [] = false
is_comma_run (c ∷ cs) = (c == 44) && (is_mark_gap cs || is_comma_run cs)

-- hyphens and spaces, at least one
abbrev pub is_dash_run : List ℕ → Bool
is_dash_run [] = false
is_dash_run (c ∷ cs) = list_all is_dash (c ∷ cs)

-- which announcements may stand before so many digits
abbrev pub allowed : ℕ → Bool → Allowed
allowed n signed = record {
  parameter = nat_le n 20 && not signed;
  words = nat_le n 20;
  signs = nat_le n 9;
  dashes = nat_le n 6 && signed;
  pauses = nat_le n 15;
  commas = nat_le n 9;
}

-- a word or a sign that may stand there, perhaps a mark, a gap
abbrev pub is_named : Allowed → List ℕ → Bool
is_named a t = (a.words && follows_some words t) || (a.signs && follows_some signs t)

-- a pause or commas that may stand there, perhaps a mark, a gap
abbrev pub is_paused : Allowed → List ℕ → Bool
is_paused a t = (a.pauses && follows_some pauses t) || (a.commas && is_comma_run t)

-- all that is asked of an end
abbrev pub seen_in : Allowed → List ℕ → Seen
seen_in a t = record {
  gaps = is_gap_run t;
  ending = is_mark_gap t;
  named = is_led is_lead (is_named a) t;
  commas = is_comma_run t;
  paused = is_led is_blank (is_paused a) t;
  dashes = list_all is_dash t;
}

-- the same, from what was asked of all that follows its first character c
abbrev pub seen_before : Allowed → Seen → ℕ → List ℕ → Seen
seen_before a s c t = record {
  gaps = is_gap c && s.gaps;
  ending = (is_gap c || is_mark c) && s.gaps;
  named = is_named a t || (is_lead c && s.named);
  commas = (c == 44) && (s.ending || s.commas);
  paused =
      ((a.pauses && follows_some pauses t) || (a.commas && ((c == 44) && (s.ending || s.commas))))
      || (is_blank c && s.paused);
  dashes = is_dash c && s.dashes;
}

-- the text, which isn't empty, announces an extension
abbrev pub announces_seen : Allowed → Seen → List ℕ → Bool
announces_seen a s t =
    (a.parameter && is_alike t (codes ";ext=")) || s.named || s.paused || (a.dashes && s.dashes)

-- the text announces an extension
abbrev pub announces : Allowed → List ℕ → Bool
announces a t =
    (a.parameter && is_alike t (codes ";ext=")) || is_led is_lead (is_named a) t ||
    is_led is_blank (is_paused a) t || (a.dashes && is_dash_run t)

-- the text is `front`, and perhaps a number sign after it; all of it where it doesn't end in one
pub record IsSignless (t front : List ℕ) (signed : Bool) : Type 0 where
  pub sign : List ℕ
  pub whole : t ≡ front ++ sign
  pub signs : IsOptional is_sign sign
  pub told : signed ≡ not (length sign == 0)
  pub none_left : signed ≡ false → ends is_sign t ≡ false

-- exactly two digits
abbrev pub is_two_digits : List ℕ → Bool
is_two_digits [] = false
is_two_digits (c ∷ []) = false
is_two_digits (c ∷ d ∷ cs) = is_nil cs && is_nd c && is_nd d
