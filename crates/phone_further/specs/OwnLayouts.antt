-- The text of a number by layouts that are handed in: after `formatByPattern` of libphonenumber.
use Rattle.std.specs.Prelude.{ℕ, ◌==◌, ◌&&◌, Bool, if◌then◌else◌, List, [], ◌∷◌, ◌++◌, chars, codes}
use Rattle.std.specs.Prelude.{encode_utf8_all, is_some, Option, None, Some}
use Rattle.std.specs.Fmt.{decimal}
use Rattle.std.specs.List.{find}
use Rattle.std.specs.Option.{option_and_then, option_map_or}
use Rattle.phone_chars.specs.Characters.{is_digit, is_separator}
use Rattle.phone_chars.specs.Cuts.{after_front}
use Rattle.phone_values.specs.Numbers.{text_of}
use Rattle.phone_values.specs.declared.mode.Mode.{Mode}
use Rattle.phone_values.specs.declared.mode.Mode.TheVariants.{E164, International, National}
use Rattle.phone_values.specs.declared.mode.Mode.TheVariants.{Rfc3966}
use Rattle.phone_values.specs.declared.reading.Reading.{Reading}
use Rattle.phone_plans.specs.CodeLookUps.{first_of, territories}
use Rattle.phone_print.specs.Layouts.{fits}
use Rattle.phone_print.specs.Texts.{extension_parameter, extension_part, hyphenated}
use Rattle.phone_records.specs.declared.loader.Format.{Format}
use Rattle.phone_records.specs.declared.loader.Metadata.{Metadata}
use Rattle.phone_territory.specs.Layouts.{laid_by, layout_template, national_template}
use Rattle.phone_questions.specs.Matches.{extension_told}
use Rattle.phone_dialling.specs.Abroad.{if_some}

-- the template of national text: its rule counts where the territory has a national prefix
abbrev pub home_template : Metadata → Format → List ℕ
home_template m f = if is_some (option_and_then if_some m.national_prefix)
    then national_template f m.national_prefix None else layout_template f

-- the template of a layout in a mode
abbrev pub own_template : Metadata → Mode → Format → List ℕ
own_template m National f = home_template m f
own_template m E164 f = layout_template f
own_template m International f = layout_template f
own_template m Rfc3966 f = layout_template f

-- a character of a template that stands for itself: of two dollar signs one is written
abbrev pub literal : ℕ → List ℕ
literal c = if c == 36 then 36 ∷ 36 ∷ [] else c ∷ []

-- two characters of a template name a group: a dollar sign and a digit
abbrev pub names_group : ℕ → ℕ → Bool
names_group c d = (c == 36) && is_digit d

-- the name of a group in braces, which end it
abbrev pub in_braces : ℕ → List ℕ
in_braces d = 36 ∷ 123 ∷ d ∷ 125 ∷ []

-- a template whose groups are named by a dollar sign and one digit, whatever stands behind: `${2}x`
-- for `$2x`; each other character stands for itself
abbrev pub braced : List ℕ → List ℕ
braced [] = []
braced (c ∷ []) = literal c
braced (c ∷ d ∷ rest) = if names_group c d then in_braces d ++ braced rest
    else literal c ++ braced (d ∷ rest)

-- digits laid out by a layout and a template of such groups
abbrev pub laid_by_digits : Format → List ℕ → List ℕ → List ℕ
laid_by_digits f template digits = laid_by f (encode_utf8_all (braced (chars template))) digits

-- digits laid out by the first of the layouts that is theirs; as they are without one
abbrev pub own_laid : Metadata → Mode → Option Format → List ℕ → List ℕ
own_laid m mode None digits = digits
own_laid m mode (Some f) digits = laid_by_digits f (own_template m mode f) digits

-- digits that are laid out, with no separator in front, each other run of separators one hyphen
abbrev pub with_hyphens : List ℕ → List ℕ
with_hyphens laid = encode_utf8_all (hyphenated (after_front is_separator (chars laid)))

-- the text of a number in a mode that is laid out so: of the mode E.164 as well
abbrev pub assembled : Metadata → Mode → Reading → List ℕ → List ℕ
assembled m E164 n laid =
    43 ∷ (decimal n.code.value ++ (laid ++ extension_part m (extension_told n.extension)))
assembled m International n laid =
    43 ∷ (decimal n.code.value ++ 32 ∷ (laid ++ extension_part m (extension_told n.extension)))
assembled m National n laid = laid ++ extension_part m (extension_told n.extension)
assembled m Rfc3966 n laid = (codes "tel:+" ++ (decimal n.code.value ++ 45 ∷ with_hyphens laid)) ++
    extension_parameter (extension_told n.extension)

-- the text of a number in a mode by layouts, in its code's first territory
abbrev pub text_by_own : Metadata → Mode → List Format → Reading → List ℕ
text_by_own m mode layouts n = assembled m mode n (own_laid m mode
    (find (fits (text_of n.national)) layouts) (text_of n.national))

-- the same under a database; of a code that isn't listed the digits
abbrev pub text_by_layouts : List Metadata → Mode → List Format → Reading → List ℕ
text_by_layouts db mode layouts n = option_map_or (λ m. text_by_own m mode layouts n)
    (first_of (territories n.code.value db)) (text_of n.national)
