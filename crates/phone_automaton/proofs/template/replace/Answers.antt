use Rattle.std.proofs.Common.{rules}
use Rattle.phone_automaton.proofs.template.replace.Goals as goal

pub returns-in-Ok : goal.returns-in-Ok
returns-in-Ok c =
    let (bytes, behind, written) = c.in_ok-push_written.ensures.written c.if-not-branch.false in
    let written = rw (c.as_bytes-bytes.ensures.value, c.as_bytes.ensures.value) at written in
    (bytes, search (rules, behind), written)
