use Rattle.std.proofs.Common.{◌≡◌, take}
use Rattle.phone_c_questions.specs.Found.{places_of}
use Rattle.phone_c_questions.proofs.found.places_of.Given as goal

abbrev pub invariant-loop-found : goal.invariant-loop-found
invariant-loop-found l = l.places.items ≡ places_of (take l.found-index l.all)
