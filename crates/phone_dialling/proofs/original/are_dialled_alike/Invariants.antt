use Rattle.std.proofs.Common.{◌≡◌, length}
use Rattle.std.specs.Str.{bytes_eq}
use denote.Text.{Utf8}
use denote.Shadow.{shadow}
use Rattle.phone_dialling.specs.Original.{dialled_of}
use Rattle.phone_dialling.proofs.original.are_dialled_alike.Given as goal

abbrev pub invariant-loop-c : goal.invariant-loop-c
invariant-loop-c l = shadow (Utf8 l.left) × shadow (Utf8 l.right)
    × (bytes_eq (dialled_of l.a) (dialled_of l.b) ≡ bytes_eq (dialled_of l.left) (dialled_of l.right))

abbrev pub decreases-loop-c : goal.decreases-loop-c
decreases-loop-c l = length l.left
