use Rattle.std.specs.Prelude.{⊤}
use Rattle.phone_commands.specs.Jobs.{TakesLines}
use Rattle.phone_commands.specs.Strays.{CountsBegin, CountsLine}
use Rattle.phone_cli.proofs.Carried.{answers_in, lines_by}
use Rattle.phone_cli.proofs.tool.run_lines.Goals as goal

pub returns : goal.returns
returns g c = (
  c.run.ensures.0,
  c.run.ensures.1.taker.now,
  c.run.ensures.1.tally,
  answers_in _ (TakesLines g.T.LineTaker.begins g.T.LineTaker.gives) (λ j. j.taker.now)
      (λ _. ⊤) (lines_by _ _ g.T.LineTaker.begins g.T.LineTaker.gives (λ j. j.taker.now)
      (λ _. ⊤) (λ a head b h is. (is.0, tt)) (λ a line answer b h is. (is.0, tt)))
      _ _ _ _ _ _ _ tt c.run.ensures.2,
  rw c.new-tally.ensures at (answers_in _ (TakesLines CountsBegin CountsLine) (λ j. j.tally)
      (λ _. ⊤) (lines_by _ _ CountsBegin CountsLine (λ j. j.tally)
      (λ _. ⊤) (λ a head b h is. (is.1, tt)) (λ a line answer b h is. (is.1, tt)))
      _ _ _ _ _ _ _ tt c.run.ensures.2),
  c.run.ensures.3,
)
