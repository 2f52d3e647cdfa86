use Rattle.std.proofs.Common.{◌≡◌, None, take, chars}
use Rattle.phone_library_text.proofs.Tests.{texts_of}
use Rattle.phone_matches_text.specs.Extensions.{after_some_label}
use Rattle.phone_matches_text.proofs.extension.after_some_label.Given as goal

abbrev pub invariant-loop-label : goal.invariant-loop-label
invariant-loop-label l = after_some_label l.most (texts_of (take l.label-index l.labels)) (chars l.text) ≡ None
