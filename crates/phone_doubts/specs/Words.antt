-- Which doubts there are, as a struct tells them, and their words as they are written one by one.
use Rattle.std.specs.Prelude.{ℕ, ◌==◌, Bool, if◌then◌else◌, List, ◌∷◌, ◌++◌, length}
use Rattle.phone_doubts.specs.declared.doubt.Doubt.{Doubt}
use Rattle.phone_doubts.specs.declared.doubt.Doubt.TheVariants as doubt
use Rattle.phone_doubts.specs.declared.doubt.Doubts.{Doubts}

-- a doubt is one of them
abbrev pub holds : Doubts → Doubt → Bool
holds d doubt.Float = d.float
holds d doubt.NoPlus = d.no_plus
holds d doubt.ZeroInBrackets = d.zero_in_brackets
holds d doubt.Letters = d.letters
holds d doubt.TwoNumbers = d.two_numbers
holds d doubt.Date = d.date
holds d doubt.ZeroLost = d.zero_lost
holds d doubt.OtherRegion = d.other_region

-- a word behind others, with a space between
abbrev pub behind : List ℕ → List ℕ → List ℕ
behind text word = if length text == 0 then word else text ++ 32 ∷ word
