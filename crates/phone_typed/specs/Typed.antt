-- What is shown of a number while it is typed: what a layout prints of its digits, as of a complete
-- number's, else as of a beginning's with nines after them, up to the last key. Texts are bytes.
use Rattle.std.specs.Prelude.{ℕ, ◌==◌, ◌&&◌, ◌||◌, nat_le, nat_lt, Bool, false, if◌then◌else◌}
use Rattle.std.specs.Prelude.{List, [], ◌∷◌, ◌++◌, codes, drop, length, map, take, Option, None}
use Rattle.std.specs.Prelude.{Some, unwrap_or}
use Rattle.std.specs.Fmt.{decimal}
use Rattle.std.specs.Option.{option_and_then, option_map_or, option_or}
use Rattle.phone_values.specs.declared.country.Id.{Id}
use Rattle.phone_values.specs.declared.mode.Mode.{Mode}
use Rattle.phone_values.specs.declared.mode.Mode.TheVariants.{International, National}
use Rattle.phone_plans.specs.CodeLookUps.{first_of, shortest, territories}
use Rattle.phone_read.specs.Strips.{step}
use Rattle.phone_print.specs.Layouts.{layouts_for, template_for}
use Rattle.phone_read.specs.Hints.{hinted}
use Rattle.phone_records.specs.Missing.{first_given}
use Rattle.phone_records.specs.declared.loader.Format.{Format}
use Rattle.phone_records.specs.declared.loader.Metadata.{Metadata}
use Rattle.phone_territory.specs.First.{first_span, is_whole_match}
use Rattle.phone_territory.specs.Layouts.{laid_by, layout_pattern}
use Rattle.phone_territory.specs.Records.{code_of, is_led}
use Rattle.phone_typed.specs.Keys.{shows, up_to_key}

-- fewer digits than three are shown as they are
abbrev pub is_short : List ℕ → Bool
is_short digits = nat_lt (length digits) 3

-- fifteen nines, the digits of a longest number
abbrev pub nines : List ℕ
nines = codes "999999999999999"

-- the digits, and as many nines after them as are lacking to fifteen
abbrev pub with_nines : List ℕ → List ℕ
with_nines digits = digits ++ drop (length digits) nines

-- a layout lays out all of these digits: it is meant for them, and its pattern matches them whole
abbrev pub lays_out_all : List ℕ → Format → Bool
lays_out_all digits f = is_led digits f && is_whole_match (layout_pattern f) digits

-- it lays out the first n of them: its pattern's first match begins at the first, and has at least
-- n
abbrev pub lays_out : ℕ → List ℕ → Format → Bool
lays_out n digits f = is_led digits f && option_map_or (λ (s : ℕ × ℕ). (s.0 == 0) && nat_le n s.1)
    (first_span (layout_pattern f) digits) false

-- a text that shows the keys
abbrev pub if_shows : List ℕ → List ℕ → Option (List ℕ)
if_shows keys text = if shows keys text then Some text else None

-- by a layout, of a complete number: what it prints of the national digits
abbrev pub complete_text : Metadata → Mode → List ℕ → List ℕ → Format → Option (List ℕ)
complete_text m mode national keys f =
    if lays_out_all national f
    then if_shows keys (laid_by f (template_for f m mode None) national) else None

-- by a layout, of the beginning of a number: that of what it prints of n national digits that have
-- others after them
abbrev pub partial_text : Metadata → Mode → ℕ → List ℕ → List ℕ → Format → Option (List ℕ)
partial_text m mode n digits keys f =
    if lays_out n digits f
    then if_shows keys (up_to_key (length keys) (laid_by f (template_for f m mode None) digits))
    else None

-- by the first layout of the territory that gives such a text
abbrev pub first_complete : Metadata → Mode → List ℕ → List ℕ → Option (List ℕ)
first_complete m mode national keys =
    first_given (map (complete_text m mode national keys) (layouts_for m mode))

-- the same of the beginning of a number, with nines after its digits
abbrev pub first_partial : Metadata → Mode → List ℕ → List ℕ → Option (List ℕ)
first_partial m mode national keys =
    first_given (map (partial_text m mode (length national) (with_nines national) keys)
    (layouts_for m mode))

-- of keys that give these national digits: as of a complete number, else as of a beginning; the
-- keys as they are where they are too short, and where no layout's text shows them
abbrev pub text_of_keys : Metadata → Mode → List ℕ → List ℕ → List ℕ
text_of_keys m mode national keys =
    if is_short national || is_short keys then keys
    else unwrap_or
    (option_or (first_complete m mode national keys) (first_partial m mode national keys)) keys

-- after a plus sign, where the digits begin with this calling code: the code, a space, and what
-- follows the code, by the international layouts of the code's first territory
abbrev pub text_of_code : List Metadata → List ℕ → ℕ → List ℕ
text_of_code db digits code =
    let n = length (decimal code) in
    option_map_or (λ m. 43 ∷ (take n digits ++ 32 ∷
    text_of_keys m International (drop n digits) (drop n digits)))
    (first_of (territories code db)) (43 ∷ digits)

-- after a plus sign: by the shortest listed code; the keys as they are until there is one
abbrev pub text_abroad : List Metadata → List ℕ → List ℕ
text_abroad db digits =
    option_map_or (text_of_code db digits) (shortest db digits) (43 ∷ digits)

-- without a plus sign, in a territory: what its rules leave of the digits is national, and its
-- national layouts write the prefix
abbrev pub text_at : Metadata → List ℕ → List ℕ
text_at m keys = text_of_keys m National (step m keys None).national keys

-- the first territory of the calling code of the hint
abbrev pub layout_territory : List Metadata → Option Id → Option Metadata
layout_territory db hint =
    option_and_then (λ m. first_of (territories (code_of m) db)) (hinted db hint)

-- what is shown of keys under a hint; without a territory digits are shown as they are
abbrev pub typed : List Metadata → Option Id → List ℕ → List ℕ
typed db hint [] = []
typed db hint (k ∷ keys) =
    if k == 43 then text_abroad db keys
    else option_map_or (λ m. text_at m (k ∷ keys)) (layout_territory db hint) (k ∷ keys)
