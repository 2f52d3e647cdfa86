use Rattle.std.proofs.Common.{ap}
use Rattle.phone_cli.specs.Answers.{is_table}
use Rattle.phone_cli.proofs.RunLemmas.{lines_ran, short_runs}
use Rattle.phone_cli.proofs.tool.on_database.Goals as goal

pub returns-in-Short-Some : goal.returns-in-Short-Some
returns-in-Short-Some g c = λ reads fits.
    let run = c.run_lines.ensures in
    rw run.5 (lines_ran _ _ _ _ _ run.2 run.0 (ap is_table c.in-Short-Some.is-0) run.4
    (short_runs _ _ _ _ _ _ run.1 _ c.in-Short-Some.is-0 c.in-Short-Some.is-1 run.3))
