-- Where a key stands in what a field shows.
use Rattle.std.specs.Prelude.{ℕ, suc, ◌==◌, if◌then◌else◌, List, [], ◌∷◌, chars, length, min, take}
use Rattle.phone_typed.specs.KeyedFields.{Field}

-- after how many characters the last of keys stands, each sought behind the one before it; all of
-- them where one isn't found
abbrev pub place_of : List ℕ → List ℕ → ℕ
place_of [] shown = 0
place_of (k ∷ ks) [] = 0
place_of (k ∷ ks) (c ∷ cs) = suc (place_of (if c == k then ks else k ∷ ks) cs)

-- after how many characters of what is shown the n-th character stands that was typed, counted from
-- 1: where the number fits a layout these are keys, else all is shown as it was typed
abbrev pub caret : ℕ → Field → ℕ
caret n s = if s.laid.fits then place_of (take n s.keys) (chars s.shown)
    else min n (length (chars s.text))
