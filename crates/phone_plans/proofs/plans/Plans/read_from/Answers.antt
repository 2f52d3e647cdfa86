use Rattle.std.proofs.Common.{◌≡◌, ap, arith}
use Rattle.phone_plans.specs.Texts.{faults_of}
use Rattle.phone_plans.proofs.plans.Plans.read_from.Goals as goal

pub returns-clause-io : goal.returns-clause-io
returns-clause-io g c = grind (arith, c.open.ensures.no_io, c.in-Ok.ensures.no_fault)

pub returns-clause-lost : goal.returns-clause-lost
returns-clause-lost g c = λ e.
    let one : faults_of c.open.result ≡ 1 = ap faults_of e in
    absurd (omega (arith, c.open.ensures.no_io, one))
