use Rattle.std.proofs.Common.{◌≡◌, List, rules, subst}
use Rattle.phone_records.specs.declared.loader.Metadata.{Metadata}
use Rattle.phone_c_base.specs.Buffers.{IsTooLongA, IsWrittenA}
use Rattle.phone_c_questions.specs.Formats.{IsTextFrom}
use Rattle.phone_c.proofs.dialling.phone_text_from.Goals as goal

pub returns-clause-written : goal.returns-clause-written
returns-clause-written c =
    let same : c.database-database.result.now ≡ c.args.handle.now.records = search rules in
    let IsSo = λ (db : List Metadata).
    IsWrittenA (IsTextFrom db c.args.region.now c.args.raw.now c.args.number.now c.args.bytes.now)
    c.args.out.now c.from_region-status.new.out c.from_region-status.new.wrote
    in
    λ ok. subst IsSo same (c.from_region-status.ensures.written ok)

pub returns-clause-too_small : goal.returns-clause-too_small
returns-clause-too_small c =
    let same : c.database-database.result.now ≡ c.args.handle.now.records = search rules in
    let IsSo = λ (db : List Metadata).
    IsTooLongA (IsTextFrom db c.args.region.now c.args.raw.now c.args.number.now c.args.bytes.now)
    c.args.out.now c.from_region-status.new.out c.from_region-status.new.wrote
    in
    λ small. subst IsSo same (c.from_region-status.ensures.too_small small)
