use Rattle.std.proofs.Common.{refl}
use Rattle.phone_commands.proofs.encoded.EncodedJob.answer.Goals as goal

pub returns-in-Some : goal.returns-in-Some
returns-in-Some g c =
    let n = c.new-text.ensures in
    let act = rw (n.source, n.encoding, n.held, n.text) at c.answer.ensures in
    rw c.in-Some.is ((_, _, act), refl)
