use Rattle.std.proofs.Common.{ap, inl, inr, refl, ◌∙◌}
use Rattle.std.specs.Prelude.{option_map}
use Rattle.phone_commands.specs.Columns.{asked}
use Rattle.phone_commands.specs.declared.reader.Reader.{Reader}
use Rattle.phone_cli.specs.Answers.{is_table, tells_further}
use Rattle.phone_cli.specs.Answers.Does.{no_memory, refused}
use Rattle.phone_cli.proofs.RunLemmas.{lines_ran, objects_runs}
use Rattle.phone_cli.proofs.objects.objects.Goals as goal

pub returns-in-Err : goal.returns-in-Err
returns-in-Err g c = λ is rules under loaded. elim c.say_no_columns.ensures [
  | inl r ↦ rw r.0 (refused (r.1.0, record { idle = refl; said = r.1.1 }))
  | inr m ↦ rw m.0 (no_memory (ap tells_further is) record { idle = refl; said = m.1 })
]

pub returns-in_default : goal.returns-in_default
returns-in_default g c = λ is rules under loaded. rw c.say.ensures.status
    (no_memory (ap tells_further is) record { idle = refl; said = c.say.ensures.told })

pub returns : goal.returns
returns g c = λ is rules under loaded.
    let made = c.objects_of-taker.ensures in
    let run = c.run_lines.ensures in
    rw run.5 (lines_ran _ _ _ _ _ run.2 run.0 (ap is_table is) run.4 (objects_runs _ _ _
    c.objects_of-taker.result _ _ _ run.1 _ is loaded
    (ap (λ e. asked e.now) made.extra ∙ ap asked c.as_slice.ensures.value ∙ c.in-Ok-extra.ensures ∙ c.in-Ok.ensures)
    (ap (λ (r : Reader). r.engine.rules) made.reader ∙ rules)
    (ap (λ (r : Reader). r.engine.hint) made.reader ∙ under)
    (ap (λ (r : Reader). option_map (λ d. d.now) r.short) made.reader)
    made.place run.3))
