use Rattle.std.proofs.Common.{rules, sym}
use Rattle.std.proofs.lemmas.Str.{encodes-chars}
use Rattle.phone_dialling.proofs.kept.begins_so.Goals as goal

pub returns : goal.returns
returns c =
    let whole = sym (encodes-chars c.args.text.now c.utf8.text) in
    search (rules, whole)
