-- What a number in a text is made of. Texts are lists of characters.
use Rattle.std.specs.Prelude.{ℕ, ◌==◌, ◌&&◌, ◌||◌, not, Bool, true, false, nat_le, List, [], ◌∷◌}
use Rattle.std.specs.List.{count_by, list_any}
use Rattle.std.specs.Option.{option_map_or}
use Rattle.phone_chars.specs.Characters.{is_nd}
use Rattle.phone_chars.specs.Cuts.{after_front, front}
use Rattle.phone_matches_text.specs.Brackets.{has_good_brackets}
use Rattle.phone_parts.specs.Texts.{begins}
use Rattle.phone_find.specs.Rules.{dates, labels}
use Rattle.phone_find.specs.Sets.{is_closing, is_free, is_gap, is_inner, is_unbracketed}
use Rattle.phone_find.specs.Walks.{after_signs, fits}

-- the text has no character
abbrev pub is_nil : List ℕ → Bool
is_nil [] = true
is_nil (c ∷ cs) = false

-- nothing, or a number sign alone
abbrev pub is_sign_or_end : List ℕ → Bool
is_sign_or_end [] = true
is_sign_or_end (c ∷ cs) = (c == 35) && is_nil cs

-- digits, at least one, perhaps behind a gap, and perhaps a number sign behind them
abbrev pub are_extension_digits : List ℕ → Bool
are_extension_digits t = let digits = after_front is_gap t in
    begins is_nd digits && is_sign_or_end (after_front is_nd digits)

-- a label of extensions, and such digits
abbrev pub is_labelled : (t label : List ℕ) → Bool
is_labelled t label = option_map_or are_extension_digits (after_signs label t) false

-- an extension: one of the labels, and such digits
abbrev pub is_extension : List ℕ → Bool
is_extension t = list_any (is_labelled t) labels

-- what may stand in a number, and behind it perhaps an extension
abbrev pub is_made : List ℕ → Bool
is_made t = let rest = after_front is_inner t in is_nil rest || is_extension rest

-- the most digits that a number has: 17 of its national number, 3 of its calling code, 5 of an
-- international prefix, 9 of an extension behind an `x`
abbrev pub most_digits : ℕ
most_digits = 34

-- few digits stand in the text before the first character that may not stand in a number
abbrev pub has_few_digits : List ℕ → Bool
has_few_digits t = nat_le (count_by is_nd (front is_inner t)) most_digits

-- the first bracket isn't a closing one, and brackets stand as they may in a number
abbrev pub is_bracketed : List ℕ → Bool
is_bracketed t = not (begins is_closing (after_front is_unbracketed t)) && has_good_brackets t

-- a date begins the text
abbrev pub begins_date : List ℕ → Bool
begins_date t = list_any (λ d. fits d t) dates

-- a date stands in the text behind a character that is free
abbrev pub has_later_date : List ℕ → Bool
has_later_date [] = false
has_later_date (c ∷ cs) = (is_free c && begins_date cs) || has_later_date cs

-- a date stands in the text
abbrev pub has_date : List ℕ → Bool
has_date t = begins_date t || has_later_date t
