use Rattle.std.proofs.Common.{ap}
use Rattle.phone_cli.specs.Answers.{is_table}
use Rattle.phone_cli.proofs.RunLemmas.{finds_by, is_report, lines_ran}
use Rattle.phone_cli.proofs.RunLemmas.{report_runs, typed_runs, with_input_runs}
use Rattle.phone_cli.proofs.RunLemmas.{written_runs}
use Rattle.phone_cli.proofs.tool.by_reader.Goals as goal

pub returns-in-ReportWithInput : goal.returns-in-ReportWithInput
returns-in-ReportWithInput g c = λ reads loaded.
    let made = c.reader_of-reader.ensures in
    let run = c.run_lines.ensures in
    rw run.5 (lines_ran _ _ _ _ _ run.2 run.0
    (ap is_table c.in-ReportWithInput.is) run.4 (with_input_runs _ _ _
    (record { engine = c.reader_of-reader.result.engine }) _ _ run.1 _
    c.in-ReportWithInput.is made.rules made.hint run.3))

pub returns-in-Written : goal.returns-in-Written
returns-in-Written g c = λ reads loaded.
    let made = c.reader_of-reader.ensures in
    let run = c.run_lines-in-Written.ensures in
    rw run.5 (lines_ran _ _ _ _ _ run.2 run.0
    (ap is_table c.in-Written.is) run.4 (written_runs _ _ _
    (record { engine = c.reader_of-reader.result.engine; form = c.in-Written.form }) _ _ run.1 _
    c.in-Written.is made.rules made.hint run.3))

pub returns-in-Find : goal.returns-in-Find
returns-in-Find g c = λ reads loaded.
    let made = c.reader_of-reader.ensures in
    c.found.ensures (finds_by _ c.in-Find.is) made.rules made.hint

pub returns-in-Typed : goal.returns-in-Typed
returns-in-Typed g c = λ reads loaded.
    let run = c.run_lines-in-Typed.ensures in
    rw run.5 (lines_ran _ _ _ _ _ run.2 run.0
    (ap is_table c.in-Typed.is) run.4 (typed_runs _ _ _ c.new-taker.result
    c.reader_of-reader.result.engine.database.now _ _ run.1 _
    c.in-Typed.is (rw c.reader_of-reader.ensures.hint at c.new-taker.ensures)
    run.3))

pub returns-in_default : goal.returns-in_default
returns-in_default g c = λ reads loaded.
    let other = c.in_default in
    let made = c.reader_of-reader.ensures in
    let run = c.run_lines-in_default.ensures in
    let is = is_report _ reads other.not-Objects other.not-Find other.not-FoundObjects
    other.not-FoundRecords other.not-Typed other.not-Table other.not-ReportWithInput
    other.not-Written in
    rw run.5 (lines_ran _ _ _ _ _ run.2 run.0
    (ap is_table is) run.4 (report_runs _ _ _
    (record { reader = c.reader_of-reader.result }) _ _ run.1 _ is made.rules made.hint run.3))
