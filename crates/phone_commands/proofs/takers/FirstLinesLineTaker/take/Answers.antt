use Rattle.std.proofs.Common.{[], sym}
use Rattle.std.proofs.lemmas.List.{append-nil}
use Rattle.phone_commands.specs.FirstLines.IsFirstLine.{no_text}
use Rattle.phone_commands.proofs.takers.FirstLinesLineTaker.take.Goals as goal

pub returns-in_default : goal.returns-in_default
returns-in_default c = record {
  taken = (
    [],
    rw c.saturating_add-self.ensures (no_text c.in_default.ensures.cases.0),
    sym (append-nil c.args.answers.now.items),
  );
}
