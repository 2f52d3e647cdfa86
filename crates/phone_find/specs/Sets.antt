-- The sets of characters that numbers in a text are told by, and the signs that stand for them in
-- the rules.
use Rattle.std.specs.Prelude.{ℕ, ◌==◌, ◌||◌, ◌&&◌, nat_le, not, Bool, if◌then◌else◌, List, [], ◌∷◌}
use Rattle.phone_chars.specs.Characters.{is_letter, is_nd, is_one_of, is_plus, is_separator}
use Rattle.phone_chars.specs.Characters.{same_fold}
use Rattle.ucd_category.specs.GeneralCategory.{general_category, general_category_eq}
use Rattle.ucd_category.specs.GeneralCategoryGroup.{in_group}
use Rattle.ucd_category.specs.declared.GeneralCategory.TheVariants.{CurrencySymbol}
use Rattle.ucd_category.specs.declared.GeneralCategoryGroup.TheVariants.{Separator}

-- opening brackets, round and square, plain and fullwidth
abbrev pub is_opening : ℕ → Bool
is_opening c = is_one_of (0x28 ∷ 0x5B ∷ 0xFF08 ∷ 0xFF3B ∷ []) c

-- closing ones
abbrev pub is_closing : ℕ → Bool
is_closing c = is_one_of (0x29 ∷ 0x5D ∷ 0xFF09 ∷ 0xFF3D ∷ []) c

-- all that are no brackets
abbrev pub is_unbracketed : ℕ → Bool
is_unbracketed c = not (is_opening c || is_closing c)

-- digits of any script but `4` to `9`: what a month or a day may begin with
abbrev pub is_low_digit : ℕ → Bool
is_low_digit c = is_nd c && not (nat_le 52 c && nat_le c 57)

-- digits of any script but `0`: what a calling code begins with
abbrev pub is_high_digit : ℕ → Bool
is_high_digit c = is_nd c && not (c == 48)

-- the spaces of all scripts: category Z
abbrev pub is_space : ℕ → Bool
is_space c = in_group Separator (general_category c)

-- currency signs, and the percent sign
abbrev pub is_money : ℕ → Bool
is_money c = (c == 37) || general_category_eq (general_category c) CurrencySymbol

-- what joins digits at once: apostrophe, hyphens, full stop, colon, tilde, minus sign
abbrev pub is_joiner : ℕ → Bool
is_joiner c = is_one_of (39 ∷ 45 ∷ 46 ∷ 58 ∷ 126 ∷ 0x2010 ∷ 0x2011 ∷ 0x2212 ∷ []) c

-- what parts a date: hyphen, full stop, slash
abbrev pub is_date_mark : ℕ → Bool
is_date_mark c = is_one_of (45 ∷ 46 ∷ 47 ∷ []) c

-- the capital letters of ASCII
abbrev pub is_capital : ℕ → Bool
is_capital c = nat_le 65 c && nat_le c 90

-- the signs that stand for a set of one kind of character: `9` a digit, `3` one but `4` to `9`, `5`
-- one but `0`, `_` a space, `$` money, `+` a plus sign, `<` an opening bracket, `>` a closing one,
-- `|` what parts a date; each other character stands for itself, whatever its case
unfoldable pub stands_plainly : (sign c : ℕ) → Bool
stands_plainly sign c =
    if sign == 57 then is_nd c
    else if sign == 51 then is_low_digit c
    else if sign == 53 then is_high_digit c
    else if sign == 95 then is_space c
    else if sign == 36 then is_money c
    else if sign == 43 then is_plus c
    else if sign == 60 then is_opening c
    else if sign == 62 then is_closing c
    else if sign == 124 then is_date_mark c
    else same_fold sign c

-- all signs: besides these `&` is a joiner, `-` what may stand between groups, `%` a capital
-- letter, `@` a letter; and where the text has ended, too, stand `!` for no digit, `?` for neither
-- a digit nor what parts a date, `*` for no letter
unfoldable pub stands_for : (sign c : ℕ) → Bool
stands_for sign c =
    if sign == 38 then is_joiner c
    else if sign == 45 then is_separator c
    else if sign == 37 then is_capital c
    else if sign == 64 then is_letter c
    else if sign == 33 then not (is_nd c)
    else if sign == 63 then not (is_nd c || is_date_mark c)
    else if sign == 42 then not (is_letter c)
    else stands_plainly sign c

-- the signs that stand where the text has ended, too
abbrev pub is_absent : ℕ → Bool
is_absent sign = is_one_of (33 ∷ 63 ∷ 42 ∷ []) sign

-- what may stand in a number: digits, plus signs, what may stand between groups, `X`
abbrev pub is_inner : ℕ → Bool
is_inner c = is_nd c || is_plus c || is_separator c || (c == 88)

-- what a number ends in: a digit, or the number sign behind an extension
abbrev pub is_last : ℕ → Bool
is_last c = is_nd c || (c == 35)

-- what a number begins with, if not with a plus sign: a digit or an opening bracket
abbrev pub is_first : ℕ → Bool
is_first c = is_nd c || is_opening c

-- behind what a date may begin: neither a digit nor what parts a date
abbrev pub is_free : ℕ → Bool
is_free c = not (is_nd c || is_date_mark c)

-- what may stand between a word that announces an extension and its digits
abbrev pub is_gap : ℕ → Bool
is_gap c = is_one_of (32 ∷ 0xA0 ∷ 9 ∷ 44 ∷ 45 ∷ 46 ∷ 58 ∷ 0xFF0E ∷ []) c
