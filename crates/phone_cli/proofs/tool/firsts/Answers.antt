use Rattle.std.proofs.Common.{ap, false, refl, sym, true, ◌≡◌, ◌∙◌}
use Rattle.phone_cli.specs.Answers.{is_table}
use Rattle.phone_cli.specs.Answers.Does.{refused}
use Rattle.std.proofs.lemmas.Bool.{true_from_ne_false}
use Rattle.phone_plans.specs.CodeLookUps.{is_prefix_free}
use Rattle.phone_cli.proofs.RunLemmas.{firsts_runs, lines_ran}
use Rattle.phone_cli.proofs.tool.firsts.Goals as goal

pub returns-in_default : goal.returns-in_default
returns-in_default g c = λ is. rw c.say.ensures.status
    (refused (c.say.ensures.some.0, record { idle = refl; said = c.say.ensures.some.1 }))

pub returns-in-0 : goal.returns-in-0
returns-in-0 g c = λ is.
    let run = c.run_lines.ensures in
    rw (c.say_firsts.ensures ∙ sym c.in-0.is ∙ run.5)
    (lines_ran _ _ _ _ _ run.2 run.0 (ap is_table is) run.4
    (firsts_runs _ _ _ c.args.database c.in-Some.taker _ _ run.1 _ is
    (true_from_ne_false (is_prefix_free c.args.database) (λ e.
    let none : true ≡ false = c.in-Some.ensures.none.1 e in cc)) c.in-Some.ensures.empty run.3))

pub returns : goal.returns
returns g c = λ is.
    let run = c.run_lines.ensures in
    rw run.5 (lines_ran _ _ _ _ _ run.2 run.0 (ap is_table is) run.4
    (firsts_runs _ _ _ c.args.database c.in-Some.taker _ _ run.1 _ is
    (true_from_ne_false (is_prefix_free c.args.database) (λ e.
    let none : true ≡ false = c.in-Some.ensures.none.1 e in cc)) c.in-Some.ensures.empty run.3))
