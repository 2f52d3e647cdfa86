use Rattle.std.proofs.Common.{◌≡◌, drop}
use Rattle.phone_words.specs.Calls.{first_fault, misfit_of}
use Rattle.phone_words.specs.Parts.{all_said}
use Rattle.phone_words.proofs.options.first_misfit.Given as goal

abbrev pub invariant-loop-part : goal.invariant-loop-part
invariant-loop-part l =
    first_fault (misfit_of (all_said l.parts)) (all_said (drop l.part-index l.parts)) ≡
    first_fault (misfit_of (all_said l.parts)) (all_said l.parts)
