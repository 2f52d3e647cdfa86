-- What is shown while characters are typed, one after the other.
use Rattle.std.proofs.Common.{◌≡◌, ℕ, List, [], ◌∷◌, ◌++◌, ◌∙◌, append_assoc}
use Rattle.phone_commands.specs.TypedLines.{behind_bars, shown_after_each, typed_into}
use Rattle.phone_typed.specs.Fields.{Field, shown}

-- a bar, what is shown after one more character, and what is shown after the others
pub bars-next : (before : List ℕ) (field : Field) (c : ℕ) (cs : List ℕ) →
    ((before ++ 124 ∷ []) ++ shown (typed_into field c)) ++
    behind_bars (shown_after_each (typed_into field c) cs) ≡
    before ++ behind_bars (shown_after_each field (c ∷ cs))
bars-next before field c cs =
    let now = shown (typed_into field c) in
    let later = behind_bars (shown_after_each (typed_into field c) cs) in
    append_assoc (before ++ 124 ∷ []) now later ∙ append_assoc before (124 ∷ []) (now ++ later)
