-- What of a text is dialled as a short number: as libphonenumber has it.
use Rattle.std.specs.Prelude.{ℕ, not, Bool, if◌then◌else◌, List, [], ◌∷◌}
use Rattle.std.specs.List.{filter_map}
use Rattle.phone_chars.specs.Characters.{is_nd}
use Rattle.phone_chars.specs.Cuts.{after_front}
use Rattle.phone_library_text.specs.Letters.{value_of}
use Rattle.phone_parts.specs.Cores.{begins_second_number, is_start}
use Rattle.phone_parts.specs.Texts.{begins}

-- a text from the first of its plus signs and digits on
abbrev pub from_start : List ℕ → List ℕ
from_start t = after_front (λ c. not (is_start c)) t

-- what stands before the first mark of a second number; all of the text where it has none
abbrev pub before_second : List ℕ → List ℕ
before_second [] = []
before_second (c ∷ cs) =
    if begins_second_number (c ∷ cs) then [] else c ∷ before_second cs

-- the digits of a text: the values of its digits of any script, from its start up to a second
-- number; nothing else counts
abbrev pub digits_in : List ℕ → List ℕ
digits_in t = filter_map value_of (before_second (from_start t))

-- a text is dialled within a region where the first of its plus signs and digits is a digit
abbrev pub is_dialled_within : List ℕ → Bool
is_dialled_within t = begins is_nd (from_start t)
