-- How often texts were counted.
use Rattle.std.specs.Prelude.{◌≡◌, ℕ, ◌+◌, ◌-◌, ◌^◌, Bool, false, List, [], ◌∷◌, ◌++◌, Some}
use Rattle.std.specs.Prelude.{count_by, min, unwrap_or, String}
use Rattle.std.specs.declared.alloc.Global.{Global}
use Rattle.std.specs.BTreeMap.{BTreeMap, get_by_text}
use Rattle.std.specs.Map.{update}
use Rattle.std.specs.Str.{IsUtf8, bytes_eq}

-- texts with their counts
abbrev pub Counted : Type 0
Counted = BTreeMap (String Global) ℕ

-- how often a text was counted
abbrev pub times : Counted → List ℕ → ℕ
times tally text = unwrap_or (get_by_text tally text) 0

-- a text has this count then, and each other one the same as before
abbrev pub IsPut : Counted → List ℕ → ℕ → Counted → Type 0
IsPut before text count after = (other : List ℕ) → get_by_text after other ≡
    update bytes_eq (get_by_text before) text (Some count) other

-- a text was counted once more, and no other; a count is 2^64 - 1 at most
abbrev pub CountsOnce : Counted → List ℕ → Counted → Type 0
CountsOnce before text after = IsPut before text (min (times before text + 1) (2 ^ 64 - 1)) after

-- a text was counted once more, unless it is empty
abbrev pub Counts : Counted → List ℕ → Counted → Type 0
Counts before [] after = after ≡ before
Counts before (c ∷ cs) after = CountsOnce before (c ∷ cs) after

-- a text is this one, and not empty
abbrev pub is_text : List ℕ → List ℕ → Bool
is_text [] other = false
is_text (c ∷ cs) other = bytes_eq (c ∷ cs) other

-- how often a text that isn't empty stands among these, 2^64 - 1 times at most
abbrev pub times_among : List (List ℕ) → List ℕ → ℕ
times_among texts text = min (count_by (is_text text) texts) (2 ^ 64 - 1)

-- each text was counted as often as it stands among these; what is no UTF-8 is no text
abbrev pub IsTally : List (List ℕ) → Counted → Type 0
IsTally texts tally = (text : List ℕ) → IsUtf8 text → times tally text ≡ times_among texts text

-- a tally of some texts becomes one of these and more
abbrev pub CountsMore : Counted → (more : List (List ℕ)) → Counted → Type 0
CountsMore before more after =
    (texts : List (List ℕ)) → IsTally texts before → IsTally (texts ++ more) after
