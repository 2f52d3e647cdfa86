-- How brackets may stand in a number, and page numbers, which are none.
use Rattle.std.specs.Prelude.{◌||◌, Bool, List, ℕ}
use Rattle.phone_matches_text.specs.Sets.{is_in}
use Rattle.phone_matches_text.specs.Shapes.{Test, always, any, at_end, few, one, perhaps, some}
use Rattle.phone_matches_text.specs.Shapes.{somewhere}
use Rattle.phone_matches_text.specs.declared.sets.Set.TheVariants as set

-- perhaps an opening bracket, what is no bracket, at least one character, and a closing one
abbrev pub perhaps_enclosed : Test → Test
perhaps_enclosed q t =
    one (is_in set.Opening) (some (is_in set.Unbracketed) (one (is_in set.Closing) q)) t || q t

-- nothing but brackets' absence up to the end
abbrev pub is_unbracketed_end : Test
is_unbracketed_end t = any (is_in set.Unbracketed) at_end t

-- at least one character that is no bracket, then at most three enclosed parts, one right behind
-- the other, and then no bracket
abbrev pub is_enclosing : Test
is_enclosing t = some (is_in set.Unbracketed)
    (perhaps_enclosed (perhaps_enclosed (perhaps_enclosed is_unbracketed_end))) t

-- perhaps such characters and a closing bracket before that
abbrev pub is_closed : Test
is_closed t = some (is_in set.Unbracketed) (one (is_in set.Closing) is_enclosing) t ||
    is_enclosing t

-- perhaps an opening bracket before that; no kind of bracket must fit another
abbrev pub has_good_brackets : Test
has_good_brackets t = perhaps (is_in set.Opening) is_closed t

-- a digit, hyphens, one to five digits, at most four spaces, a round bracket, a digit: pages of a
-- volume, as in `23-25(1)`
abbrev pub begins_pages : Test
begins_pages t =
    one (is_in set.Digit) (some (is_in set.Hyphen) (one (is_in set.Digit) (few (is_in set.Digit) 4
    (few (is_in set.Blank) 4 (one (is_in set.Round) (one (is_in set.Digit) always)))))) t

-- such pages stand somewhere in the text
abbrev pub has_pages : Test
has_pages t = somewhere begins_pages t
