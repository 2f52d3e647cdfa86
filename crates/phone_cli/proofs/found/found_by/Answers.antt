use Rattle.std.proofs.Common.{ap, ◌∙◌}
use Rattle.phone_commands.specs.declared.reader.Reader.{Reader}
use Rattle.phone_cli.proofs.RunLemmas.{finds_no_table, found_runs, lines_ran}
use Rattle.phone_cli.proofs.found.found_by.Goals as goal

pub returns : goal.returns
returns g c = λ finds rules under.
    let made = c.finder_of-taker.ensures in
    let run = c.run_lines.ensures in
    rw run.5 (lines_ran _ _ _ _ _ run.2 run.0
    (finds_no_table _ finds) run.4 (found_runs _ _ _
    c.finder_of-taker.result _ _ run.1 _ finds made.matching
    (ap (λ (r : Reader). r.engine.rules) made.reader ∙ rules)
    (ap (λ (r : Reader). r.engine.hint) made.reader ∙ under)
    made.form made.first made.place (ap (λ n. n.now) made.names) made.begun
    run.3))
