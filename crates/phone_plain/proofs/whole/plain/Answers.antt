use Rattle.std.proofs.lemmas.Str.{chars-IsAscii}
use Rattle.phone_plain.proofs.whole.plain.Goals as goal

pub returns-in-Ok : goal.returns-in-Ok
returns-in-Ok c =
    let same = chars-IsAscii c.args.text.now c.if-not-is_ascii.ensures.cases in rw (same, ← c.as_bytes.ensures.value) c.in-Ok.ensures
