-- Where a number may stand in a text, by the characters alone. Texts are lists of characters.
use Rattle.std.specs.Prelude.{◌&&◌, ◌||◌, not, Bool, ℕ, List, ◌++◌, reverse}
use Rattle.phone_chars.specs.Characters.{is_plus}
use Rattle.phone_parts.specs.Texts.{begins, ends}
use Rattle.phone_find.specs.Rules.{accounts, areas, cards, codes_before, links, neighbours}
use Rattle.phone_find.specs.Rules.{followers, stamps}
use Rattle.phone_find.specs.Sets.{is_first, is_last}
use Rattle.phone_find.specs.Shapes.{has_date, has_few_digits, is_bracketed, is_made}
use Rattle.phone_find.specs.Walks.{fits_some}

-- a place in a text is inside something else: a longer number, a price, an address of the net, an
-- account, a card
abbrev pub is_inside : (back from : List ℕ) → Bool
is_inside back from = fits_some neighbours back from || fits_some areas back from ||
    fits_some codes_before back from || fits_some accounts back from || fits_some cards back from

-- a number may begin between what stands before it and what follows: at a plus sign; or at a digit
-- or an opening bracket, behind what makes a link dial, or inside nothing else
abbrev pub is_begin : (before from : List ℕ) → Bool
is_begin before from = begins is_plus from || (begins is_first from &&
    (fits_some links (reverse before) from || not (is_inside (reverse before) from)))

-- a number may end between its piece and what follows: it ends in a digit or a number sign, and is
-- no front of a longer number, a price, or a date with its time
abbrev pub is_end : (piece after : List ℕ) → Bool
is_end piece after = ends is_last piece && not (fits_some followers (reverse piece) after) &&
    not (fits_some stamps (reverse piece) after)

-- a piece is made of a number's characters, with good brackets
abbrev pub is_plain : List ℕ → Bool
is_plain piece = is_made piece && is_bracketed piece

-- a piece is made as a number is: it is such a one, has few digits, and no date
abbrev pub is_shaped : List ℕ → Bool
is_shaped piece = has_few_digits piece && is_plain piece && not (has_date piece)

-- a piece may be a number, by its characters and what follows it
abbrev pub is_piece : (piece after : List ℕ) → Bool
is_piece piece after = is_end piece after && is_shaped piece

-- a piece of a text may be a number
abbrev pub is_candidate : (before piece after : List ℕ) → Bool
is_candidate before piece after = is_begin before (piece ++ after) && is_piece piece after
