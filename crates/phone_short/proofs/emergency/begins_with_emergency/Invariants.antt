use Rattle.std.proofs.Common.{◌≡◌, List, ℕ, ◌++◌, true, length}
use denote.Text.{Utf8}
use denote.Shadow.{shadow}
use Rattle.std.specs.List.{list_all}
use Rattle.phone_chars.specs.Characters.{is_digit}
use Rattle.phone_short.specs.Emergencies.{begins_with_emergency, is_emergency_number}
use Rattle.phone_short.proofs.Fronts.{later}
use Rattle.phone_short.proofs.emergency.begins_with_emergency.Given as goal

abbrev pub invariant-loop-after : goal.invariant-loop-after
invariant-loop-after l =
    shadow (Utf8 l.rest) × (list_all is_digit l.rest ≡ true)
    × ((seen : List ℕ) × (l.digits ≡ seen ++ l.rest)
    × (begins_with_emergency l.m l.digits ≡ later (is_emergency_number l.m) seen l.rest))

abbrev pub decreases-loop-after : goal.decreases-loop-after
decreases-loop-after l = length l.rest
