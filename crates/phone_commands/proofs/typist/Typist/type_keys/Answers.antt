use Rattle.std.proofs.Common.{refl, sym}
use Rattle.std.proofs.lemmas.List.{append-nil}
use Rattle.std.proofs.lemmas.Str.{chars-nil}
use Rattle.phone_commands.proofs.typist.Typist.type_keys.Goals as goal

pub returns-in-None-clause-shown : goal.returns-in-None-clause-shown
returns-in-None-clause-shown c =
    rw (c.in-None.ensures.cut, chars-nil) (sym (append-nil c.args.answers.now.items))

pub returns-in-None-clause-typed : goal.returns-in-None-clause-typed
returns-in-None-clause-typed c = rw (c.in-None.ensures.cut, chars-nil) refl
