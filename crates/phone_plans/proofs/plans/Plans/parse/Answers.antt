use Rattle.std.proofs.Common.{◌≡◌, Err}
use Rattle.std.proofs.lemmas.Result.{err_from_is_err_and}
use Rattle.phone_base.specs.declared.error.LoadMetadata.TheVariants as error
use Rattle.phone_plans.proofs.TextFaults.{read-none}
use Rattle.phone_plans.proofs.plans.Plans.parse.Goals as goal

pub returns-in_err-records-clause-json : goal.returns-in_err-records-clause-json
returns-in_err-records-clause-json c = λ e.
    let p = err_from_is_err_and c.from_residual.result c.from_residual.ensures.1 in
    let same : c.records.result ≡ Err error.Json = cc (p.1, p.2, e, c.in_err-records.was) in
    read-none (λ v. v.items) c.args.text.now c.records.result c.records.ensures same
