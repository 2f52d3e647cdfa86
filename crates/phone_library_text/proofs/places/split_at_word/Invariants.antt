use Rattle.std.proofs.Common.{◌≡◌, List, ℕ, ◌++◌, chars, length}
use denote.Text.{Utf8}
use denote.Shadow.{shadow}
use Rattle.phone_library_text.specs.Places.{parted}
use Rattle.phone_library_text.proofs.Partings.{behind}
use Rattle.phone_library_text.proofs.places.split_at_word.Given as goal

abbrev pub invariant-loop-next : goal.invariant-loop-next
invariant-loop-next l =
    shadow (Utf8 l.rest) × ((v : List ℕ) × (l.text ≡ v ++ l.rest))
    × ((passed : List ℕ) × (chars l.text ≡ passed ++ chars l.rest)
    × (parted (chars l.word) (chars l.text) ≡ behind passed (parted (chars l.word) (chars l.rest))))

abbrev pub decreases-loop-next : goal.decreases-loop-next
decreases-loop-next l = length l.rest
