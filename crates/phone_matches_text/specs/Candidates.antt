-- Where a number may stand in a text, by the characters alone: the candidates. Texts are lists of
-- characters. Runs are as long as they can be.
use Rattle.std.specs.Prelude.{ℕ, zero, suc, Bool, not, ◌||◌, if◌then◌else◌, List, [], ◌∷◌, length}
use Rattle.std.specs.Prelude.{drop, Option, None, Some}
use Rattle.std.specs.Option.{option_map_or}
use Rattle.phone_chars.specs.Characters.{is_nd}
use Rattle.phone_chars.specs.Cuts.{after_front}
use Rattle.phone_parts.specs.Cores.{begins_second_number}
use Rattle.phone_parts.specs.Texts.{begins}
use Rattle.phone_matches_text.specs.Extensions.{after_perhaps_extension}
use Rattle.phone_matches_text.specs.Sets.{is_in}
use Rattle.phone_matches_text.specs.Shapes.{Test, after_few, always, before_end, either, from_first}
use Rattle.phone_matches_text.specs.Shapes.{one, within}
use Rattle.phone_matches_text.specs.declared.sets.Set.TheVariants as set

-- a digit of any script
abbrev pub begins_digit : Test
begins_digit t = one (is_in set.AnyDigit) always t

-- an opening bracket or a plus sign, at most four characters from between digits
abbrev pub is_led : Test → Test
is_led q t = one (is_in set.Lead) (within (is_in set.Between) 4 q) t

-- a candidate begins here: a digit does, perhaps led once or twice
abbrev pub begins_candidate : Test
begins_candidate t =
    either begins_digit (either (is_led begins_digit) (is_led (is_led begins_digit))) t

-- what follows a group: at most four characters from between digits, and one to twenty digits
abbrev pub after_group : List ℕ → Option (List ℕ)
after_group t =
    let group = after_few (is_in set.Between) 4 t in
    if begins_digit group then Some (after_few (is_in set.AnyDigit) 20 group) else None

-- what follows at most so many groups
abbrev pub after_groups : ℕ → List ℕ → List ℕ
after_groups zero t = t
after_groups (suc n) t = option_map_or (after_groups n) (after_group t) t

-- all but digits
abbrev pub is_no_digit : ℕ → Bool
is_no_digit c = not (is_in set.AnyDigit c)

-- what follows at most twenty digits, behind all that stands before the first
abbrev pub after_led_digits : List ℕ → List ℕ
after_led_digits t = after_few (is_in set.AnyDigit) 20 (after_front is_no_digit t)

-- what follows the first digits of a candidate that begins with this character: at most twenty,
-- that one among them if it is a digit; else behind all that leads them
abbrev pub after_first_digits : ℕ → List ℕ → List ℕ
after_first_digits c cs =
    if is_in set.AnyDigit c then after_few (is_in set.AnyDigit) 19 cs
    else after_led_digits cs

-- what follows the candidate that begins with this character: what leads it, one to twenty digits,
-- at most twenty groups, perhaps an extension
abbrev pub after_candidate : ℕ → List ℕ → List ℕ
after_candidate c cs = after_perhaps_extension (after_groups 20 (after_first_digits c cs))

-- a text up to the mark of a second number, or all of it
abbrev pub before_second : List ℕ → List ℕ
before_second [] = []
before_second (c ∷ cs) = if begins_second_number (c ∷ cs) then [] else c ∷ before_second cs

-- the candidate that begins with this character, without it, up to the mark of a second number
abbrev pub behind_first : ℕ → List ℕ → List ℕ
behind_first c cs = before_second (before_end cs (after_candidate c cs))

-- the candidate that begins here
abbrev pub candidate_at : List ℕ → List ℕ
candidate_at [] = []
candidate_at (c ∷ cs) = c ∷ behind_first c cs

-- the text from the first candidate on; nothing where none begins
abbrev pub from_candidate : List ℕ → List ℕ
from_candidate t = from_first begins_candidate t
