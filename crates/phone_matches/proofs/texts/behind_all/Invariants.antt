use Rattle.std.proofs.Common.{◌≡◌, drop}
use Rattle.phone_matches.specs.Runs.{told}
use Rattle.phone_matches.specs.Texts.{behind_all}
use Rattle.phone_matches.proofs.texts.behind_all.Given as goal

abbrev pub invariant-loop-part : goal.invariant-loop-part
invariant-loop-part l = behind_all (told l.parts) l.text ≡ behind_all (told (drop l.part-index l.parts)) l.rest
