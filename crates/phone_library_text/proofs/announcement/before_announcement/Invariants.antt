use Rattle.std.proofs.Common.{◌≡◌, true, List, ℕ, ◌++◌, chars, length, IfSome}
use denote.Text.{Utf8}
use denote.Shadow.{shadow}
use Rattle.phone_library_text.specs.Scans.{announces, seen_in}
use Rattle.phone_library_text.proofs.Searches.{FoundFrom}
use Rattle.phone_library_text.proofs.announcement.before_announcement.Given as goal

abbrev pub invariant-loop-front : goal.invariant-loop-front
invariant-loop-front l =
    shadow (Utf8 l.left) × ((v : List ℕ) × (l.text ≡ l.left ++ v))
    × ((w : List ℕ) × (chars l.text ≡ chars l.left ++ w) × (l.seen ≡ seen_in l.allowed w))
    × FoundFrom (λ w. announces l.allowed w ≡ true) (chars l.text) (length (chars l.left)) l.found
    × IfSome l.found (λ f. (v : List ℕ) × (l.text ≡ f.now ++ v))

abbrev pub decreases-loop-front : goal.decreases-loop-front
decreases-loop-front l = length l.left
