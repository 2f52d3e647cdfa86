-- Patterns of groups of decimal digits: what `\d` is read as, and what groups of it are.
use Rattle.std.proofs.Common.{◌≡◌, ◌&&◌, ◌||◌, ◌+◌, ℕ, zero, suc, nat_le, List, [], ◌∷◌, map}
use Rattle.std.proofs.Common.{filter, refl, ap, ◌∙◌}
use Rattle.std.specs.Bool.{beq}
use Rattle.regex.proofs.OnLiterals.{alone, class_is, same_group, same_refl, cat_cong}
use Rattle.regex.specs.Patterns.{Range, Re, empty, char_in, byte_in, cat, alt, group, members}
use Rattle.regex.specs.Patterns.{is_digit_char}
use Rattle.regex_class.specs.Ranges.{in_range, in_ranges, HasExactly}
use Rattle.regex_hir.specs.Meaning.{copies}
use Rattle.regex_syntax.specs.Same.{SameTree}
use Rattle.ucd_category.specs.GeneralCategory.{general_category_eq}
use Rattle.ucd_category.specs.GeneralCategoryRows.{general_category_rows}
use Rattle.ucd_category.specs.declared.GeneralCategory.TheVariants.{DecimalNumber}
use Rattle.ucd_category.specs.declared.GeneralCategory.{GeneralCategory}
use Rattle.ucd_perl.proofs.Computing.{ucd_perl}
use Rattle.ucd_perl.proofs.PerlLemmas.{is_digit_char_stepped}
use Rattle.ucd_table.proofs.Facts.{Stepped-always, same_from_beq}
use Rattle.ucd_table.proofs.Stepped.{Stepped, of_ranges, zip_stepped}
use Rattle.ucd_table.specs.Rows as table

-- the ranges of the decimal digits
unfoldable pub nd_ranges : List Range
unfolding general_category_rows
nd_ranges =
    map (λ (r : ℕ × ℕ × GeneralCategory). (r.0, r.1))
    (filter (λ (r : ℕ × ℕ × GeneralCategory). general_category_eq r.2 DecimalNumber)
    general_category_rows)

same_ranges : (rs : List Range) (c : ℕ) → in_ranges rs c ≡ table.in_ranges rs c
unfolding in_ranges table.in_ranges in_range
same_ranges [] c = refl
same_ranges (r ∷ rs) c = ap (λ b. (nat_le r.0 c && nat_le c r.1) || b) (same_ranges rs c)

nd_stepped : Stepped (table.in_ranges nd_ranges)
unfolding ucd_perl nd_ranges
nd_stepped = of_ranges nd_ranges refl

nd_exactly : HasExactly nd_ranges is_digit_char
unfolding ucd_perl nd_stepped
nd_exactly c le =
    same_ranges nd_ranges c
    ∙ same_from_beq _ _ (Stepped-always (λ x. beq (table.in_ranges nd_ranges x) (is_digit_char x))
    (zip_stepped beq (table.in_ranges nd_ranges) is_digit_char nd_stepped is_digit_char_stepped)
    refl c le)

-- `\d` as the grammar has it, and by its ranges
abbrev pub any_digit : Re
any_digit = char_in (members is_digit_char)

abbrev pub digit : Re
digit = char_in nd_ranges

pub any_digit-digit : SameTree any_digit digit
any_digit-digit = class_is is_digit_char nd_ranges nd_exactly

-- `\d{n}`, and `\d` for n = 0
abbrev pub run : Re → ℕ → Re
run d zero = d
run d (suc n) = copies (suc n) d empty

copied : (n : ℕ) → SameTree (copies n any_digit empty) (copies n digit empty)
copied zero = same_refl _
copied (suc n) = cat_cong any_digit-digit (copied n)

pub runs : (n : ℕ) → SameTree (run any_digit n) (run digit n)
runs zero = any_digit-digit
runs (suc n) = copied (suc n)

-- groups of runs, from group k on, as the grammar has them
abbrev pub read_groups : ℕ → List ℕ → Re
read_groups k [] = empty
read_groups k (n ∷ ns) =
    cat (group k (alt (cat (run any_digit n) empty) (byte_in []))) (read_groups (k + 1) ns)

-- the same by ranges
abbrev pub groups : ℕ → List ℕ → Re
groups k [] = empty
groups k (n ∷ ns) = cat (group k (run digit n)) (groups (k + 1) ns)

pub read_groups-groups : (k : ℕ) (ns : List ℕ) → SameTree (read_groups k ns) (groups k ns)
read_groups-groups k [] = same_refl _
read_groups-groups k (n ∷ ns) =
    cat_cong (same_group k (alone (runs n))) (read_groups-groups (k + 1) ns)
