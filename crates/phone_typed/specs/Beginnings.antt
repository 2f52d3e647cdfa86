-- The beginning of a number's keys, where the layout that prints the number serves it too.
use Rattle.std.specs.Prelude.{◌≡◌, ◌&&◌, ◌||◌, ℕ, Bool, false, if◌then◌else◌, length, List, []}
use Rattle.std.specs.Prelude.{Option, None, Some}
use Rattle.std.specs.List.{find, list_any}
use Rattle.std.specs.Option.{option_map_or}
use Rattle.regex.specs.Replace.{bytes_of}
use Rattle.phone_values.specs.Numbers.{text_of}
use Rattle.phone_values.specs.declared.mode.Mode.{Mode}
use Rattle.phone_values.specs.declared.reading.Reading.{Reading}
use Rattle.phone_print.specs.Layouts.{layouts_for, template_for}
use Rattle.phone_records.specs.declared.loader.Format.{Format}
use Rattle.phone_records.specs.declared.loader.Metadata.{Metadata}
use Rattle.phone_territory.specs.First.{Seen, first_match, group_in}
use Rattle.phone_territory.specs.Layouts.{laid_by, layout_pattern, suits}
use Rattle.phone_typed.specs.Keys.{shows, up_to_key}
use Rattle.phone_typed.specs.Typed.{is_short, lays_out, lays_out_all, with_nines}

-- a layout serves keys that leave these national digits as those of a complete number: it lays out
-- all of the digits, and its text shows the keys
abbrev pub serves_complete : Metadata → Mode → List ℕ → List ℕ → Format → Bool
serves_complete m mode national keys f =
    lays_out_all national f && shows keys (laid_by f (template_for f m mode None) national)

-- it serves them as those of the beginning of a number: it lays out all of the digits with nines
-- after them, and its text shows the keys up to the last of them
abbrev pub serves : Metadata → Mode → List ℕ → List ℕ → Format → Bool
serves m mode national keys f =
    lays_out (length national) (with_nines national) f && shows keys
    (up_to_key (length keys) (laid_by f (template_for f m mode None) (with_nines national)))

-- the layout of the beginning of a number: the first that serves it, where no layout serves the
-- keys as those of a complete number
abbrev pub partial_layout : Metadata → Mode → List ℕ → List ℕ → Option Format
partial_layout m mode national keys =
    if list_any (serves_complete m mode national keys) (layouts_for m mode) then None
    else find (serves m mode national keys) (layouts_for m mode)

-- what a group takes of digits, at the first match of a layout's pattern; group 0 is the match
abbrev pub taken_by : Format → List ℕ → ℕ → List ℕ
taken_by f digits group = option_map_or (λ (s : Seen). bytes_of digits (group_in s group))
    (first_match (layout_pattern f) digits) []

-- a layout parts two numbers' digits alike: each group takes as many of the one's as of the other's
abbrev pub PartsAlike : Format → List ℕ → List ℕ → Type 0
PartsAlike f a b = (group : ℕ) → length (taken_by f a group) ≡ length (taken_by f b group)

-- of keys that leave these national digits, three or more: the layout that prints the number is
-- that of the beginning too, and parts the number's digits as it parts those of the beginning with
-- the nines after them
pub record IsBegun (m : Metadata) (mode : Mode) (n : Reading) (national keys : List ℕ) :
    Type 0 where
  pub long_enough : (is_short national || is_short keys) ≡ false
  pub layout : Format
  pub complete : find (suits (text_of n.national)) (layouts_for m mode) ≡ Some layout
  pub begun : partial_layout m mode national keys ≡ Some layout
  pub alike : PartsAlike layout (text_of n.national) (with_nines national)
