use Rattle.std.proofs.Common.{ap, ◌∙◌}
use Rattle.std.specs.Option.{option_copied}
use Rattle.phone_plans.specs.Records.{last_with}
use Rattle.phone_short.specs.Regions.{record_of}
use Rattle.phone_further.proofs.InTurn.{record_of_last}
use Rattle.phone_further.proofs.rows.Rows.of_region.Goals as goal
use Rattle.phone_further.proofs.rows.Rows.of_region.Goals.{in-Some, in-None}

pub returns-clause-record : goal.returns-clause-record
returns-clause-record c =
    let r = c.args.region in
    elim c.match-take_of.branch [
      | in-Some w ↦ ap option_copied w.result-is ∙ record_of_last c.args.self.now w.in-Some.row.territory.now (option_copied w.in-Some.row.last) r w.in-Some.ensures.row.0 w.in-Some.ensures.row.1
      | in-None w ↦ ap option_copied w.result-is ∙ (w.by_id.ensures ∙ ap (λ t. last_with t c.self.inside.short.now) w.as_str.ensures ∙ ap (λ db. record_of db r) (c.self.view_is ∙ c.take_of.ensures.table))
    ]
