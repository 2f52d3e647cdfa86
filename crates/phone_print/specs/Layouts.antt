-- Which layout counts for a national number, by whose rules, and how it lays the digits out: after
-- the original's `formatter`, and libphonenumber's choice of a layout.
use Rattle.std.specs.Prelude.{ℕ, ◌&&◌, Bool, List, [], ◌∷◌, Option, None, Some}
use Rattle.std.specs.List.{find}
use Rattle.std.specs.Option.{option_or}
use Rattle.phone_values.specs.declared.mode.Mode.{Mode}
use Rattle.phone_values.specs.declared.mode.Mode.TheVariants.{E164, International, National}
use Rattle.phone_values.specs.declared.mode.Mode.TheVariants.{Rfc3966}
use Rattle.phone_values.specs.declared.rules.Rules.{Rules}
use Rattle.phone_values.specs.declared.rules.Rules.TheVariants.{Library, Crate}
use Rattle.phone_territory.specs.First.{is_whole_match}
use Rattle.phone_territory.specs.Layouts.{laid_by, layout_pattern, layout_template}
use Rattle.phone_territory.specs.Layouts.{national_template, suits}
use Rattle.phone_territory.specs.Records.{is_led}
use Rattle.phone_records.specs.declared.loader.Format.{Format}
use Rattle.phone_records.specs.declared.loader.Metadata.{Metadata}

-- the list, or another where it is empty
abbrev pub or_else : List Format → List Format → List Format
or_else [] others = others
or_else (f ∷ fs) others = f ∷ fs

-- national text takes the territory's national layouts; other text the international ones, where it
-- has any, else the national ones
abbrev pub layouts_for : Metadata → Mode → List Format
layouts_for m National = m.formats
layouts_for m E164 = or_else m.international_formats m.formats
layouts_for m International = or_else m.international_formats m.formats
layouts_for m Rfc3966 = or_else m.international_formats m.formats

-- a layout fits digits: its leading digits begin them, if it names any, and its pattern is the
-- whole of them
abbrev pub fits : List ℕ → Format → Bool
fits digits f = is_led digits f && is_whole_match (layout_pattern f) digits

-- a layout is one for digits: by libphonenumber's rules it fits them, by the crate's it suits them,
-- so that one that names no leading digits is for all
abbrev pub is_layout_by : Rules → List ℕ → Format → Bool
is_layout_by Library = fits
is_layout_by Crate = suits

-- by these rules the layout that was handed in, else the first of the territory's that is for the
-- digits
abbrev pub layout_by : Rules → Metadata → Mode → Option Format → List ℕ → Option Format
layout_by rules m mode own digits =
    option_or own (find (is_layout_by rules digits) (layouts_for m mode))

-- the same by the crate's rules
abbrev pub layout_for : Metadata → Mode → Option Format → List ℕ → Option Format
layout_for m mode own digits = layout_by Crate m mode own digits

-- only national text has a rule
abbrev pub template_for : Format → Metadata → Mode → Option (List ℕ) → List ℕ
template_for f m National carrier = national_template f m.national_prefix carrier
template_for f m E164 carrier = layout_template f
template_for f m International carrier = layout_template f
template_for f m Rfc3966 carrier = layout_template f

-- the digits laid out: the first match of the layout's pattern replaced by its template
abbrev pub laid : Option Format → Metadata → Mode → Option (List ℕ) → List ℕ → List ℕ
laid None m mode carrier digits = digits
laid (Some f) m mode carrier digits = laid_by f (template_for f m mode carrier) digits
