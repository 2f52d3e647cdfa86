-- The sets of characters that candidates and their pieces are told by.
use Rattle.std.specs.Prelude.{ℕ, ◌==◌, ◌||◌, ◌&&◌, nat_le, not, Bool, false, List, [], ◌∷◌}
use Rattle.phone_chars.specs.Characters.{is_digit, is_letter, is_nd, is_one_of, is_plus}
use Rattle.phone_chars.specs.Characters.{is_separator}
use Rattle.phone_parts.specs.Suffixes.{is_dash, is_gap, is_mark}
use Rattle.ucd_category.specs.GeneralCategory.{general_category, general_category_eq}
use Rattle.ucd_category.specs.GeneralCategoryGroup.{in_group}
use Rattle.ucd_category.specs.declared.GeneralCategory.TheVariants.{CurrencySymbol, NonspacingMark}
use Rattle.ucd_category.specs.declared.GeneralCategoryGroup.TheVariants.{Separator}
use Rattle.phone_matches_text.specs.declared.sets.Set.{Set}
use Rattle.phone_matches_text.specs.declared.sets.Set.TheVariants as set

-- opening brackets, round and square, plain and fullwidth
abbrev pub is_opening : ℕ → Bool
is_opening c = is_one_of (0x28 ∷ 0x5B ∷ 0xFF08 ∷ 0xFF3B ∷ []) c

-- closing ones
abbrev pub is_closing : ℕ → Bool
is_closing c = is_one_of (0x29 ∷ 0x5D ∷ 0xFF09 ∷ 0xFF3D ∷ []) c

-- all that are no brackets
abbrev pub is_unbracketed : ℕ → Bool
is_unbracketed c = not (is_opening c || is_closing c)

-- an opening bracket or a plus sign leads a number
abbrev pub is_lead : ℕ → Bool
is_lead c = is_opening c || is_plus c

-- what may stand between the digits of a number: separators, and `X`
abbrev pub is_between : ℕ → Bool
is_between c = is_separator c || (c == 88)

-- a digit between these two
abbrev pub is_within : (first last : ℕ) → ℕ → Bool
is_within first last c = nat_le first c && nat_le c last

-- the spaces of all scripts: category Z
abbrev pub is_space : ℕ → Bool
is_space c = in_group Separator (general_category c)

-- the hyphens and dashes of a wide letter's breadth
abbrev pub is_wide_dash : ℕ → Bool
is_wide_dash c = is_one_of (0x2012 ∷ 0x2013 ∷ 0x2014 ∷ 0x2015 ∷ 0xFF0D ∷ []) c

-- the blocks in which Latin letters and the marks on them stand
abbrev pub is_in_latin_block : ℕ → Bool
is_in_latin_block c = nat_le c 0x24F || is_within 0x300 0x36F c || is_within 0x1E00 0x1EFF c

-- Latin letters, and marks on them
abbrev pub is_latin : ℕ → Bool
is_latin c = (is_letter c || general_category_eq (general_category c) NonspacingMark) &&
    is_in_latin_block c

-- what sticks to a number beside it, so that it is none: Latin letters, currency signs, the percent
-- sign
abbrev pub is_sticking : ℕ → Bool
is_sticking c = (c == 37) || general_category_eq (general_category c) CurrencySymbol || is_latin c

-- what a set has
abbrev pub is_in : Set → ℕ → Bool
is_in set.Nothing c = false
is_in set.Digit c = is_digit c
is_in set.AnyDigit c = is_nd c
is_in set.UpToOne c = is_within 48 49 c
is_in set.UpToTwo c = is_within 48 50 c
is_in set.UpToThree c = is_within 48 51 c
is_in set.UpToFive c = is_within 48 53 c
is_in set.OneOrTwo c = is_within 49 50 c
is_in set.Opening c = is_opening c
is_in set.Closing c = is_closing c
is_in set.Unbracketed c = is_unbracketed c
is_in set.Lead c = is_lead c
is_in set.Between c = is_between c
is_in set.Slash c = c == 47
is_in set.Hyphen c = c == 45
is_in set.DateMark c = is_one_of (45 ∷ 47 ∷ []) c
is_in set.Blank c = c == 32
is_in set.SmallX c = c == 120
is_in set.Round c = c == 40
is_in set.Colon c = c == 58
is_in set.Dot c = c == 46
is_in set.NumberSign c = c == 35
is_in set.Space c = is_space c
is_in set.WideDash c = is_wide_dash c
is_in set.Mark c = is_mark c
is_in set.Gap c = is_gap c
is_in set.Dash c = is_dash c
is_in set.Sticking c = is_sticking c
