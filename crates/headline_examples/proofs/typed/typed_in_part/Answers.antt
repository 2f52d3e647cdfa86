use Rattle.std.proofs.Common.{◌≡◌, ◌==◌, ◌&&◌, ◌||◌, ◌∷◌, [], ℕ, Bool, List, nat_le, false}
use Rattle.std.proofs.Common.{if◌then◌else◌, codes, Option, None, Some, refl, ap, ap₂, ◌∙◌}
use Rattle.std.specs.Fmt.{digits}
use Rattle.std.specs.List.{find}
use Rattle.std.specs.Option.{option_map_or}
use Rattle.phone_records.specs.declared.loader.Format.{Format}
use Rattle.phone_territory.specs.Layouts.{laid_by}
use Rattle.phone_values.specs.declared.mode.Mode.TheVariants.{International}
use Rattle.phone_typed.specs.Beginnings.{partial_layout, serves}
use Rattle.phone_typed.specs.Keys.{shows, up_to_key}
use Rattle.headline_examples.proofs.Laid.{long_laid, long_span, long_text, short_span}
use Rattle.headline_examples.specs.Samples.{long_layout, long_numbers}
use Rattle.headline_examples.proofs.typed.typed_in_part.Goals as goal

-- where a match of so many digits is the whole
abbrev spans : ℕ → Option (ℕ × ℕ) → Bool
spans count seen = option_map_or (λ (s : ℕ × ℕ). (s.0 == 0) && (s.1 == count)) seen false

-- no layout is for the four digits
abbrev if_whole : Option (ℕ × ℕ) → Option Format
if_whole seen =
    if (spans 4 seen && shows (codes "3331") (laid_by long_layout (codes "$1 $2") (codes "3331")))
    || false
    then None
    else find (serves long_numbers International (codes "3331") (codes "3331")) (long_layout ∷ [])

-- the one for fifteen lays out their beginning
abbrev if_front : Option (ℕ × ℕ) → List ℕ → Option Format
if_front seen text =
    if option_map_or (λ (s : ℕ × ℕ). (s.0 == 0) && nat_le 4 s.1) seen false
    && shows (codes "3331") (up_to_key 4 text)
    then Some long_layout else None

begun : partial_layout long_numbers International (codes "3331") (codes "3331") ≡ Some long_layout
begun = ap if_whole short_span ∙ ap₂ if_front long_span long_text

pub returns : goal.returns
unfolding digits
returns c = record {
  plain = record {
    code = refl;
    territory = refl;
    plain = record {
      no_extension = refl;
      no_carrier = refl;
      layout = long_layout;
      first = refl;
      whole = ap (spans 15) long_span;
      shown = ap (shows (codes "333199999999999")) long_laid;
      long_enough = refl;
    };
  };
  begun = record {
    long_enough = refl;
    layout = long_layout;
    complete = refl;
    begun = begun;
    alike = λ group. refl;
  };
}
