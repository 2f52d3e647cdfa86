-- How the national digits of a number are laid out while it is keyed in: the layouts that are left,
-- and the template of the one that shows the beginning.
use Rattle.std.specs.Prelude.{ℕ, ◌-◌, ◌==◌, ◌&&◌, ◌||◌, not, Bool, true, false}
use Rattle.std.specs.Prelude.{if◌then◌else◌, List, [], ◌∷◌, ◌++◌, codes, filter, length, chars}
use Rattle.std.specs.Prelude.{Option, None, Some, is_some}
use Rattle.std.specs.List.{list_any, slice_get}
use Rattle.std.specs.Option.{option_map_or, option_or}
use Rattle.std.specs.Str.{bytes_eq}
use Rattle.phone_chars.specs.Characters.{is_digit}
use Rattle.phone_print.specs.Layouts.{layouts_for}
use Rattle.phone_records.specs.declared.loader.Format.{Format}
use Rattle.phone_records.specs.declared.loader.Metadata.{Metadata}
use Rattle.phone_territory.specs.First.{at_start, is_whole_match}
use Rattle.phone_territory.specs.Layouts.{laid_by, layout_pattern, layout_template}
use Rattle.phone_values.specs.declared.mode.Mode.TheVariants.{International, National}
use Rattle.phone_keyed_parts.specs.Lines.{Line}
use Rattle.phone_keyed_parts.specs.Templates.{begun, is_simple, template_of}

-- the layouts that are left, the pattern of the one whose template is kept, this template, and
-- whether what it prints is parted by a space from what stands in front; and whether the number
-- fits some layout at all
pub record Laid : Type 0 where
  pub layouts : List Format
  pub pattern : List ℕ
  pub template : List ℕ
  pub is_spaced : Bool
  pub fits : Bool

-- no layouts yet
abbrev pub no_layouts : Laid
no_layouts = record {
  layouts = [];
  pattern = [];
  template = [];
  is_spaced = false;
  fits = true;
}

-- layouts are left
abbrev pub has_layouts : Laid → Bool
has_layouts l = not (length l.layouts == 0)

-- rules that write the first group alone, perhaps in brackets
abbrev pub first_group_rules : List (List ℕ)
first_group_rules =
    [] ∷ codes "$FG" ∷ codes "($FG)" ∷ codes "($FG" ∷ codes "$FG)" ∷ codes "$1" ∷ codes "($1)" ∷
    codes "($1" ∷ codes "$1)" ∷ []

-- a rule is one of these
abbrev pub is_first_group : List ℕ → Bool
is_first_group rule = list_any (bytes_eq rule) first_group_rules

-- a layout writes no national prefix: it has no rule, or one of these
abbrev pub has_no_prefix : Format → Bool
has_no_prefix f = option_map_or is_first_group f.national_prefix_formatting_rule true

-- a byte is a space or a hyphen
abbrev pub is_gap : ℕ → Bool
is_gap c = (c == 32) || (c == 45)

-- its rule parts the national prefix by one of these
abbrev pub is_spaced : Format → Bool
is_spaced f = option_map_or (list_any is_gap) f.national_prefix_formatting_rule false

-- it has a rule for carriers, which isn't empty
abbrev pub has_carrier_rule : Format → Bool
has_carrier_rule f =
    option_map_or (λ (rule : List ℕ). not (length rule == 0)) f.domestic_carrier false

-- whether a layout's rule goes with the national prefix that was typed, or with its absence
abbrev pub goes_with_prefix : Line → Format → Bool
goes_with_prefix l f = if length l.prefix == 0
    then (l.is_whole || (has_no_prefix f || f.national_prefix_optional_when_formatting))
    else (not (has_no_prefix f) ||
    (f.national_prefix_optional_when_formatting || has_carrier_rule f))

-- a layout may show the digits of a line
abbrev pub is_eligible : Line → Format → Bool
is_eligible l f = is_simple false false (chars (layout_template f)) && goes_with_prefix l f

-- the territory's layouts: of a whole number without a national prefix the international ones,
-- where it has any
abbrev pub layouts_of : Line → Metadata → List Format
layouts_of l m = layouts_for m (if l.is_whole && (length l.prefix == 0) then International
    else National)

-- which of a territory's layouts may show the digits of a line
abbrev pub eligible : Line → List Format
eligible l = option_map_or (λ m. filter (is_eligible l) (layouts_of l m)) l.territory []

-- the n-th of leading patterns, counted from 0, or else the last; none where there is none
abbrev pub leading_at : ℕ → List (List ℕ) → Option (List ℕ)
leading_at n patterns = option_or (slice_get patterns n) (slice_get patterns (length patterns - 1))

-- a layout is meant for these digits, three or more: it names no leading digits, or the pattern of
-- them for so many digits, the first for three, matches in front
abbrev pub leads : List ℕ → Format → Bool
leads digits f = option_map_or (λ p. at_start p digits) (leading_at (length digits - 3)
    f.leading_digits) true

-- a text has something in it, and doesn't end in a space
abbrev pub needs_space : List ℕ → Bool
needs_space front = option_map_or (λ c. not (c == 32)) (slice_get front (length front - 1)) false

-- what stands in front, a space if there is to be one, and the national digits as they are laid out
abbrev pub joined : List ℕ → Bool → List ℕ → List ℕ
joined front spaced text = front ++ (if spaced && needs_space front then 32 ∷ text else text)

-- a byte is a digit or a plus sign
abbrev pub is_key : ℕ → Bool
is_key c = is_digit c || (c == 43)

-- the digits that stand in a text, and plus signs
abbrev pub keys_of : List ℕ → List ℕ
keys_of text = filter is_key text

-- a text has these keys and no others
abbrev pub has_keys : List ℕ → List ℕ → Bool
has_keys text keys = bytes_eq (keys_of text) keys

-- the keys that are left behind a byte of a text: all where it is none, else what follows it among
-- them; none where it isn't their first
abbrev pub past_key : ℕ → List ℕ → Option (List ℕ)
past_key b [] = if is_key b then None else Some []
past_key b (k ∷ ks) = if is_key b then (if b == k then Some ks else None) else Some (k ∷ ks)

-- a layout's pattern matches the national digits whole
abbrev pub matches_whole : Line → Format → Bool
matches_whole l f = is_whole_match (layout_pattern f) l.national

-- the national digits laid out by a layout, behind what stands in front of them
abbrev pub complete_text : Line → Format → List ℕ
complete_text l f =
    joined l.front (is_spaced f) (laid_by f (layout_template f) l.national)

-- a text that has these keys and no others
abbrev pub if_has_keys : List ℕ → List ℕ → Option (List ℕ)
if_has_keys keys text = if has_keys text keys then Some text else None

-- the same by a layout whose pattern matches the national digits whole
abbrev pub text_by : Line → List ℕ → Format → Option (List ℕ)
text_by l keys f =
    if matches_whole l f then if_has_keys keys (complete_text l f) else None

-- whether a space parts the text from the front: each such layout tells
abbrev pub spaced_by : Line → Format → Bool → Bool
spaced_by l f spaced = if matches_whole l f then is_spaced f else spaced

-- the national digits laid out as a complete number's, by the first layout that gives a text with
-- all keys and no others; beside it, whether a space parts it from the front
abbrev pub complete : Line → List ℕ → Bool → List Format → Bool × Option (List ℕ)
complete l keys spaced [] = (spaced, None)
complete l keys spaced (f ∷ fs) = option_map_or (λ text. (spaced_by l f spaced, Some text))
    (text_by l keys f) (complete l keys (spaced_by l f spaced) fs)

-- the layouts that are left once national digits have come: those that are meant for them
abbrev pub narrowed : List ℕ → Laid → Laid
narrowed digits l = record l { layouts = filter (leads digits) l.layouts }

-- the layouts that may show the digits of a line, and are meant for them
abbrev pub looked_up : Line → Laid → Laid
looked_up line l = narrowed line.national (record l { layouts = eligible line })

-- a layout shows the beginning of a number, by a template
abbrev pub shown_by : Format → List Format → List ℕ → Laid → Laid
shown_by f others template l = record l {
  layouts = f ∷ others;
  pattern = layout_pattern f;
  template = template;
  is_spaced = is_spaced f;
}

-- the layouts from the first on that is of the kept pattern or has room for national digits; in the
-- second case with its template
abbrev pub first_serving : List ℕ → List ℕ → List Format → List Format × Option (List ℕ)
first_serving digits pattern [] = ([], None)
first_serving digits pattern (f ∷ fs) =
    if bytes_eq pattern (layout_pattern f) then (f ∷ fs, None)
    else option_map_or (λ t. (f ∷ fs, Some t)) (template_of digits f)
    (first_serving digits pattern fs)

-- layouts that are left: none, and the number fits no layout; with a new template, which the first
-- of them shows; or without one, and the kept one stays if no layout fell away
abbrev pub served : List Format → Option (List ℕ) → Laid → Laid
served [] t l = record l { layouts = []; template = []; fits = false }
served (f ∷ fs) None l = record l {
  layouts = f ∷ fs;
  template = if length l.layouts == length (f ∷ fs) then l.template else [];
}
served (f ∷ fs) (Some t) l = shown_by f fs t l

-- the template for national digits: layouts without room fall away, until one is of the kept
-- pattern, or has room
abbrev pub retemplated : List ℕ → Laid → Laid
retemplated digits l =
    let s = first_serving digits l.pattern l.layouts in served s.0 s.1 l

-- whether that is a new template
abbrev pub is_retemplated : List ℕ → Laid → Bool
is_retemplated digits l = is_some (first_serving digits l.pattern l.layouts).1

-- what the template shows of national digits, if it has room
abbrev pub shown_part : List ℕ → Laid → Option (List ℕ)
shown_part digits l = begun [] (chars l.template) (chars digits)

-- a template without room: its pattern is forgotten, and the number fits no layout if only one is
-- left
abbrev pub overflown : Laid → Laid
overflown l = record l { pattern = []; fits = not (length l.layouts == 1) && l.fits }

-- the layouts once the template was asked for the digits
abbrev pub entered : List ℕ → Laid → Laid
entered digits l = option_map_or (λ (t : List ℕ). l) (shown_part digits l) (overflown l)
