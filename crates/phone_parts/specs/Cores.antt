-- The core of a text, the part that free text is read from: after `extract` of the original's
-- `parser/helper`, and its patterns in `consts`.
use Rattle.std.specs.Prelude.{◌≡◌, ◌⊎◌, ℕ, ◌<◌, ◌==◌, ◌||◌, ◌&&◌, Bool, true, false, List, [], ◌∷◌}
use Rattle.std.specs.Prelude.{◌++◌, length, drop}
use Rattle.std.specs.List.{list_any}
use Rattle.phone_chars.specs.Characters.{is_plus, is_nd, is_letter, is_number, is_one_of}
use Rattle.phone_chars.specs.Cuts.{after_front}
use Rattle.phone_parts.specs.Texts.{begins, ends}

-- a number starts at a plus sign or a decimal digit of any script
abbrev pub is_start : ℕ → Bool
is_start c = is_plus c || is_nd c

-- it ends in a letter or a number of any script, or a number sign
abbrev pub is_last : ℕ → Bool
is_last c = is_letter c || is_number c || (c == 35)

-- a slash of either kind, any number of spaces and a small x: a second number begins
abbrev pub begins_second_number : List ℕ → Bool
begins_second_number [] = false
begins_second_number (c ∷ cs) = is_one_of (47 ∷ 92 ∷ []) c &&
    begins (λ d. d == 120) (after_front (λ d. d == 32) cs)

-- `first` is what stands before the first second-number mark, or all of the text where it has none
pub record IsBeforeSecondNumber (text first : List ℕ) : Type 0 where
  pub after : List ℕ
  pub whole : text ≡ first ++ after
  pub ended : (after ≡ []) ⊎ (begins_second_number after ≡ true)
  pub earliest : (k : ℕ) → k < length first → begins_second_number (drop k text) ≡ false

-- `kept` is the text without its longest end of characters in which no number ends
pub record IsTrimmed (text kept : List ℕ) : Type 0 where
  pub trailing : List ℕ
  pub whole : text ≡ kept ++ trailing
  pub no_last : list_any is_last trailing ≡ false
  pub trimmed : (kept ≡ []) ⊎ (ends is_last kept ≡ true)

-- the text from its first start character on, without its longest end of characters in which no
-- number ends, up to the second-number mark; it is not empty
pub record IsCore (text core : List ℕ) : Type 0 where
  pub before : List ℕ
  pub from : List ℕ
  pub kept : List ℕ
  pub whole : text ≡ before ++ from
  pub no_start : list_any is_start before ≡ false
  pub starts : begins is_start from ≡ true
  pub trimmed : IsTrimmed from kept
  pub first : IsBeforeSecondNumber kept core
  pub not_empty : ¬ (core ≡ [])
