use Rattle.std.proofs.Common.{◌≡◌, List, ℕ, ◌++◌, chars, length, option_map, option_copied, IfSome, codes}
use denote.Text.{Utf8}
use denote.Shadow.{shadow}
use Rattle.phone_parts.specs.Parts.{IsSlice}
use Rattle.phone_parts.specs.Tel.{HasParameters, Parameter, value_of}
use Rattle.phone_parts.proofs.parameters.read_parameters.Given as goal

abbrev pub invariant-loop-name : goal.invariant-loop-name
invariant-loop-name l =
    shadow (Utf8 l.rest) × ((v : List ℕ) × (l.text ≡ v ++ l.rest))
    × ((done : List Parameter) × ((ps : List Parameter) → HasParameters (chars l.rest) ps → HasParameters (chars l.text) (done ++ ps))
    × (option_map chars (option_copied l.found.context) ≡ value_of (codes "phone-context") done)
    × (option_map chars (option_copied l.found.extension) ≡ value_of (codes "ext") done))
    × IfSome l.found.context (λ value. IsSlice l.text value.now)
    × IfSome l.found.extension (λ value. IsSlice l.text value.now)

abbrev pub decreases-loop-name : goal.decreases-loop-name
decreases-loop-name l = length l.rest
