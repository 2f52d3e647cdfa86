-- What each key does to a field: each step says, of a field, what it becomes.
use Rattle.std.specs.Prelude.{ℕ, ◌==◌, not, nat_lt, Bool, true, false, if◌then◌else◌, List}
use Rattle.std.specs.Prelude.{[], ◌∷◌, ◌++◌, length, Option, is_some, unwrap_or, encode_utf8}
use Rattle.std.specs.Option.{option_map_or}
use Rattle.phone_plans.specs.CodeLookUps.{shortest}
use Rattle.phone_typed.specs.KeyedFields.{Field, key_of}
use Rattle.phone_keyed_parts.specs.Layouts.{complete, entered, has_layouts, is_retemplated}
use Rattle.phone_keyed_parts.specs.Layouts.{joined, looked_up, narrowed, no_layouts, retemplated}
use Rattle.phone_keyed_parts.specs.Layouts.{shown_part}
use Rattle.phone_keyed_parts.specs.Lines.{after_code, after_sign, has_longer_prefix}
use Rattle.phone_keyed_parts.specs.Lines.{sign_end, with_key, with_longer_prefix, with_prefix_off}
use Rattle.phone_keyed_parts.specs.Lines.{with_space}

-- what was typed is shown as it was typed
abbrev pub as_typed : Field → Field
as_typed s = record s { shown = s.text }

-- what stands in front of the national digits is shown, and these as they are
abbrev pub as_line : Field → Field
as_line s = record s { shown = s.line.front ++ s.line.national }

-- a text is shown behind what stands in front of the national digits
abbrev pub behind_front : List ℕ → Field → Field
behind_front text s = record s { shown = joined s.line.front s.laid.is_spaced text }

-- a text of the national digits is shown where the number fits a layout, else what was typed
abbrev pub if_fits : List ℕ → Field → Field
if_fits text s = if s.laid.fits then behind_front text s else as_typed s

-- what the template shows of the national digits; where it has no room, what was typed
abbrev pub part_or_text : Field → List ℕ
part_or_text s = unwrap_or (shown_part s.line.national s.laid) s.text

-- the template was asked for the national digits
abbrev pub with_entered : Field → Field
with_entered s = record s { laid = entered s.line.national s.laid }

-- the beginning of the number is shown by the template
abbrev pub by_template : Field → Field
by_template s = if_fits (part_or_text s) (with_entered s)

-- with the template for the national digits
abbrev pub with_template : Field → Field
with_template s = record s { laid = retemplated s.line.national s.laid }

-- a new template shows the national digits; without one what follows is done
abbrev pub by_new_template : (Field → Field) → Field → Field
by_new_template otherwise s =
    if is_retemplated s.line.national s.laid then by_template (with_template s)
    else otherwise (with_template s)

-- the national digits laid out as a complete number's, and whether a space parts them from the
-- front
abbrev pub completed : Field → Bool × Option (List ℕ)
completed s = complete s.line s.keys s.laid.is_spaced s.laid.layouts

-- this is told, and shown if there is a text
abbrev pub told : Bool × Option (List ℕ) → Field → Field
told c s =
    record s { laid = record s.laid { is_spaced = c.0 }; shown = unwrap_or c.1 s.shown }

-- the number is shown as a complete one, if a layout lays it out so; else what follows is done
abbrev pub if_complete : (Field → Field) → Field → Field
if_complete otherwise s = if is_some (completed s).1 then told (completed s) s
    else otherwise (told (completed s) s)

-- the layouts that may show the national digits, and are meant for them, are looked up
abbrev pub with_layouts : Field → Field
with_layouts s = record s { laid = looked_up s.line s.laid }

-- those that are meant for the national digits stay
abbrev pub with_narrowed : Field → Field
with_narrowed s = record s { laid = narrowed s.line.national s.laid }

-- layouts are chosen: fewer than three national digits stand as they are
abbrev pub choose : Field → Field
choose s = if nat_lt (length s.line.national) 3 then behind_front s.line.national s
    else if_complete (by_new_template as_typed) (with_layouts s)

-- layouts are chosen as if none had been before
abbrev pub choose_anew : Field → Field
choose_anew s = choose (record s {
  awaits_code = false;
  laid = record no_layouts { is_spaced = s.laid.is_spaced };
})

-- the number as a complete one, else by a new template, else a text if the number fits a layout
abbrev pub go_on_with : List ℕ → Field → Field
go_on_with text s = if_complete (λ t. by_new_template (if_fits text) (with_narrowed t)) s

-- another digit comes where layouts are left: the text is what the kept template shows
abbrev pub go_on : Field → Field
go_on s = go_on_with (part_or_text s) (with_entered s)

-- a calling code goes to what stands in front of the national digits, and is awaited no more
abbrev pub with_code : ℕ → Field → Field
with_code code s =
    record s { line = after_code s.database s.hint code s.line; awaits_code = false }

-- the awaited calling code is taken where one begins the national digits
abbrev pub await_code : Field → Field
await_code s = option_map_or (λ code. as_line (with_code code s))
    (shortest s.database s.line.national) (as_line s)

-- another key comes
abbrev pub further : Field → Field
further s = if s.awaits_code then await_code s
    else (if has_layouts s.laid then go_on s else choose s)

-- the keys are parted where a calling code may begin
abbrev pub with_sign : ℕ → Field → Field
with_sign end s = record s { line = after_sign end s.keys s.line }

-- the third key: an international number awaits its code; else the national prefix is taken off
abbrev pub third : Field → Field
third s = option_map_or (λ end. further (record (with_sign end s) { awaits_code = true }))
    (sign_end s.line.territory s.keys) (choose (record s { line = with_prefix_off s.line }))

-- a number that fits no layout, with a sign or an international prefix: layouts are chosen anew
-- behind its code, once there is one
abbrev pub unfit_abroad : Field → Field
unfit_abroad s = option_map_or (λ code. choose_anew (with_code code s))
    (shortest s.database s.line.national) (as_typed s)

-- one without: where with the national prefix put back another one is found, layouts are chosen
-- anew behind that and a space
abbrev pub unfit_at_home : Field → Field
unfit_at_home s = if has_longer_prefix s.line
    then choose_anew (record s { line = with_space (with_longer_prefix s.line) })
    else as_typed (record s { line = with_longer_prefix s.line })

-- a number that fits no layout; with a character that is no key it stays so
abbrev pub unfit : Field → Field
unfit s = if s.has_others then as_typed s
    else option_map_or (λ end. unfit_abroad (with_sign end s)) (sign_end s.line.territory s.keys)
    (unfit_at_home s)

-- a field once its keys are put down
abbrev pub shown_anew : Field → Field
shown_anew s = if not s.laid.fits then unfit s
    else (if nat_lt (length s.keys) 3 then as_typed s
    else (if length s.keys == 3 then third s else further s))

-- a character with a key is put down, a digit also among the national ones
abbrev pub put_key : ℕ → Field → ℕ → Field
put_key c s k = record s {
  text = s.text ++ encode_utf8 c;
  keys = s.keys ++ encode_utf8 k;
  line = with_key k s.line;
}

-- a character that is no key is put down: with it the number fits no layout
abbrev pub put_other : ℕ → Field → Field
put_other c s = record s {
  text = s.text ++ encode_utf8 c;
  has_others = true;
  laid = record s.laid { fits = false };
}

-- a character is put down
abbrev pub put_down : ℕ → Field → Field
put_down c s = option_map_or (put_key c s) (key_of s.text c) (put_other c s)

-- a character is typed
abbrev pub typed : ℕ → Field → Field
typed c s = shown_anew (put_down c s)

-- all characters of a text are typed
abbrev pub typed_all : List ℕ → Field → Field
typed_all [] s = s
typed_all (c ∷ cs) s = typed_all cs (typed c s)
