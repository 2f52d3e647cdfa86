use Rattle.std.proofs.Common.{◌≡◌, List, ℕ, ◌++◌, true, chars, length}
use denote.Text.{Utf8}
use denote.Shadow.{shadow}
use Rattle.std.specs.List.{list_all}
use Rattle.phone_parts.proofs.tails.before_few.Given as goal

abbrev pub invariant-loop-taken : goal.invariant-loop-taken
invariant-loop-taken g l =
    shadow (Utf8 l.left) × ((v : List ℕ) × (l.text ≡ l.left ++ v))
    × ((end : List ℕ) × (chars l.text ≡ chars l.left ++ end) × (list_all (g.S.CharSet.members l.set) end ≡ true) × (length end ≡ l._taken))
