use Rattle.std.proofs.Common.{ap, refl, sym, ◌∙◌}
use Rattle.phone_cli.specs.Statuses.{status_of, status_of_strays}
use Rattle.phone_cli.proofs.AnswerLemmas.{answers_of}
use Rattle.phone_cli.proofs.Carried.{answers_asked, asks_by}
use Rattle.phone_cli.proofs.tool.run.Goals as goal

pub returns-in-Ok : goal.returns-in-Ok
returns-in-Ok g c =
    let e = c.args.reading.call.now.encoding in
    let lenient = c.args.reading.call.now.lenient in
    let last = c.on_inputs-end.new.job.job.now in
    let asks = asks_by e c.is_none.result c.is_none.ensures in
    rw (
      c.end_progress.ensures.taken,
      c.end_progress.ensures.faults,
      c.end_progress.ensures.unflushed,
    ) (
      c.on_inputs-end.result,
      last,
      answers_asked (λ j. j.encoding) (λ j. j.job.now) g.J.Job.acts e _ _ _ _ _ _ refl
          (answers_of _ _ _ _ _ _ _ (rw asks at c.on_inputs-end.ensures.standard)
          (rw asks at c.on_inputs-end.ensures.files)),
      c.say_strays.ensures ∙ ap (status_of_strays lenient) c.strays.ensures ∙
          sym (ap (status_of lenient (g.J.Job.met last)) c.in-Ok.is),
    )

pub returns-in-Err : goal.returns-in-Err
returns-in-Err g c =
    let e = c.args.reading.call.now.encoding in
    let lenient = c.args.reading.call.now.lenient in
    let last = c.on_inputs-end.new.job.job.now in
    let asks = asks_by e c.is_none.result c.is_none.ensures in
    rw (
      c.end_progress.ensures.taken,
      c.end_progress.ensures.faults,
      c.end_progress.ensures.unflushed,
    ) (
      c.on_inputs-end.result,
      last,
      answers_asked (λ j. j.encoding) (λ j. j.job.now) g.J.Job.acts e _ _ _ _ _ _ refl
          (answers_of _ _ _ _ _ _ _ (rw asks at c.on_inputs-end.ensures.standard)
          (rw asks at c.on_inputs-end.ensures.files)),
      c.say_failure.ensures ∙
          sym (ap (status_of lenient (g.J.Job.met last)) c.in-Err.is),
    )
