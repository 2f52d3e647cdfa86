use Rattle.std.proofs.Common.{◌≡◌, ◌↔◌, List, rules, subst}
use Rattle.phone_prefixes.specs.Tables.{Entry, NoneBegins}
use Rattle.phone_c_base.specs.declared.status.TheConstants.{NO_PREFIX}
use Rattle.phone_c.proofs.prefixes.phone_prefixes_longest.Goals as goal

pub returns-clause-none : goal.returns-clause-none
returns-clause-none c =
    let same : c.thing.result.now ≡ c.args.table.now.entries = search rules in
    let IsSo = λ (es : List Entry).
    (c.longest-status.result ≡ NO_PREFIX) ↔ NoneBegins es c.args.digits.now
    in
    λ _ utf8. subst IsSo same (c.longest-status.ensures.none utf8)
