use Rattle.std.proofs.Common.{◌≡◌, drop}
use Rattle.std.specs.List.{find}
use Rattle.phone_words.specs.Calls.{has}
use Rattle.phone_words.specs.Parts.{all_said}
use Rattle.phone_words.specs.Rows.{texts_of}
use Rattle.phone_words.proofs.options.first_there.Given as goal

abbrev pub invariant-loop-name : goal.invariant-loop-name
invariant-loop-name l =
    find (has (all_said l.parts)) (texts_of (drop l.name-index l.names)) ≡
    find (has (all_said l.parts)) (texts_of l.names)
