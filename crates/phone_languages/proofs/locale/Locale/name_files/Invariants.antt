use Rattle.std.proofs.Common.{length}
use Rattle.phone_languages.proofs.NameFiles.{AreSoFar}
use Rattle.phone_languages.proofs.locale.Locale.name_files.Given as goal
use denote.Shadow.{shadow}
use denote.Text.{Utf8}

abbrev pub invariant-loop-front : goal.invariant-loop-front
invariant-loop-front l = shadow (Utf8 l.rest) × AreSoFar l.self l.rest l.files.items

abbrev pub decreases-loop-front : goal.decreases-loop-front
decreases-loop-front l = length l.rest
