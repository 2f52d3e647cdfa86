use Rattle.std.proofs.Common.{◌≡◌, List, rules, subst}
use Rattle.phone_records.specs.declared.loader.Metadata.{Metadata}
use Rattle.phone_c_base.specs.Buffers.{IsTooLong, IsWritten}
use Rattle.phone_c_base.specs.Listed.{region_names}
use Rattle.phone_c.proofs.listed.phone_regions.Goals as goal

pub returns-clause-written : goal.returns-clause-written
returns-clause-written c =
    let same : c.database.result.now ≡ c.args.handle.now.records = search rules in
    let after = c.regions-status.new in
    let IsSo = λ (db : List Metadata).
    IsWritten (region_names db) c.args.out.now after.out after.wrote
    in
    λ is. subst IsSo same (c.regions-status.ensures.written is)

pub returns-clause-too_small : goal.returns-clause-too_small
returns-clause-too_small c =
    let same : c.database.result.now ≡ c.args.handle.now.records = search rules in
    let after = c.regions-status.new in
    let IsSo = λ (db : List Metadata).
    IsTooLong (region_names db) c.args.out.now after.out after.wrote
    in
    λ is. subst IsSo same (c.regions-status.ensures.too_small is)
