-- What may stand beside a number.
use Rattle.std.specs.Prelude.{◌&&◌, ◌||◌, not, Bool, List, ℕ}
use Rattle.phone_parts.specs.Texts.{begins, ends}
use Rattle.phone_matches_text.specs.Sets.{is_lead, is_sticking}

-- nothing sticks to the piece behind it, nor before it unless a bracket or a plus sign begins it
abbrev pub stands_free : (before piece after : List ℕ) → Bool
stands_free before piece after = not (begins is_sticking after) &&
    (begins is_lead piece || not (ends is_sticking before))
