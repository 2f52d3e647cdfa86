-- Dates and times, which are no numbers.
use Rattle.std.specs.Prelude.{◌||◌, ◌&&◌, Bool, List, ℕ}
use Rattle.phone_matches_text.specs.Sets.{is_in}
use Rattle.phone_matches_text.specs.Shapes.{Test, always, at_end, one, perhaps, some, somewhere}
use Rattle.phone_matches_text.specs.declared.sets.Set.TheVariants as set

-- a digit, a slash, perhaps one of `0` to `3`, a digit, a slash, two digits
abbrev pub begins_date : Test
begins_date t =
    one (is_in set.Digit) (one (is_in set.Slash) (perhaps (is_in set.UpToThree)
    (one (is_in set.Digit) (one (is_in set.Slash) (one (is_in set.Digit) (one (is_in set.Digit)
    always)))))) t

-- such a date stands somewhere in the text
abbrev pub has_date : Test
has_date t = somewhere begins_date t

-- at least one space, an hour's two digits, and nothing else
abbrev pub is_hour : Test
is_hour t =
    some (is_in set.Blank) (one (is_in set.UpToTwo) (one (is_in set.Digit) at_end)) t

-- perhaps a hyphen or a slash, a day's two digits, and an hour
abbrev pub is_day_and_hour : Test
is_day_and_hour t =
    perhaps (is_in set.DateMark) (one (is_in set.UpToThree) (one (is_in set.Digit) is_hour)) t

-- a year's four digits, perhaps a hyphen or a slash, a month's two digits, a day and an hour
abbrev pub is_date_and_hour : Test
is_date_and_hour t =
    one (is_in set.OneOrTwo) (one (is_in set.Digit) (one (is_in set.Digit) (one (is_in set.Digit)
    (perhaps (is_in set.DateMark) (one (is_in set.UpToOne) (one (is_in set.Digit)
    is_day_and_hour)))))) t

-- a colon, and a minute's two digits
abbrev pub begins_minutes : Test
begins_minutes t =
    one (is_in set.Colon) (one (is_in set.UpToFive) (one (is_in set.Digit) always)) t

-- the text ends in a date and an hour, and minutes follow it
abbrev pub is_time : (text after : List ℕ) → Bool
is_time text after = somewhere is_date_and_hour text && begins_minutes after

-- a candidate is a date or a time, by itself and what follows it
abbrev pub is_dated : (text after : List ℕ) → Bool
is_dated text after = has_date text || is_time text after
