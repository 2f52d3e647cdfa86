use Rattle.std.proofs.lemmas.Slice.Eq.{bytes_eq-Decides}
use Rattle.std.specs.Str.{bytes_eq}
use Rattle.phone_parts.proofs.Likes.{chars_eq_bytes_eq}
use Rattle.phone_parts.proofs.parameters.newer.Goals as goal

pub returns-then-eq-clause-read : goal.returns-then-eq-clause-read
returns-then-eq-clause-read c =
    let same = chars_eq_bytes_eq (bytes_eq c.args.name.now c.args.wanted.now) c.args.name.now c.args.wanted.now c.utf8.name c.utf8.wanted (bytes_eq-Decides c.args.name.now c.args.wanted.now) in
    rw (← same, ← c.eq.ensures, c.if-eq.true)

pub returns-else-eq-clause-read : goal.returns-else-eq-clause-read
returns-else-eq-clause-read c =
    let same = chars_eq_bytes_eq (bytes_eq c.args.name.now c.args.wanted.now) c.args.name.now c.args.wanted.now c.utf8.name c.utf8.wanted (bytes_eq-Decides c.args.name.now c.args.wanted.now) in
    rw (← same, ← c.eq.ensures, c.if-eq.false)
