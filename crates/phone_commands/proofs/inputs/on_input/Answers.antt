use Rattle.std.proofs.Common.{◌≡◌, false, true}
use Rattle.phone_commands.specs.Inputs.IsAnswered.{standard}
use Rattle.phone_commands.proofs.inputs.on_input.Goals as goal

pub returns-then-is_standard : goal.returns-then-is_standard
returns-then-is_standard g c =
    rw c.failed_in.ensures
    (standard c.on_asked.result (c.is_standard.ensures.0 c.if-is_standard.true) c.on_asked.ensures)

pub returns : goal.returns
returns g c = c.on_file.ensures (λ is.
    let yes : c.is_standard.result ≡ true = c.is_standard.ensures.1 is in
    let no : c.is_standard.result ≡ false = c.if-is_standard.false in cc) _ _
