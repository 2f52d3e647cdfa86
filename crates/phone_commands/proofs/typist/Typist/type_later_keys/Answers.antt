use Rattle.std.proofs.lemmas.List.{append-nil}
use Rattle.std.proofs.lemmas.Str.{chars-nil}
use Rattle.phone_commands.proofs.typist.Typist.type_later_keys.Goals as goal

pub returns-clause-shown : goal.returns-clause-shown
returns-clause-shown c =
    rw (c.in_default.ensures.cut, chars-nil, append-nil c.loop-c.answers.items) at
    c.loop-c.invariant.1

pub returns-clause-typed : goal.returns-clause-typed
returns-clause-typed c = rw (c.in_default.ensures.cut, chars-nil) at c.loop-c.invariant.2
