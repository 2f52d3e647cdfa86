-- Texts as names are compared: without case, accents, punctuation and spaces.
use Rattle.std.specs.Prelude.{ℕ, ◌||◌, Bool, List, chars, encode_utf8_all, filter}
use Rattle.caseless.specs.Caseless.{default_case_fold}
use Rattle.unicode_normalization.specs.Forms.{nfkd}
use Rattle.phone_chars.specs.Characters.{is_letter, is_nd}

-- a character that tells names apart: a letter or a digit of any script
abbrev pub is_kept : ℕ → Bool
is_kept c = is_letter c || is_nd c

-- the characters of a folded text: of those that decomposing, folding case and decomposing again
-- give (Unicode's NFKD and toCasefold), the letters and digits
abbrev pub folded : List ℕ → List ℕ
folded cs = filter is_kept (nfkd (default_case_fold (nfkd cs)))

-- a text, folded
abbrev pub fold_text : List ℕ → List ℕ
fold_text text = encode_utf8_all (folded (chars text))
