use Rattle.std.proofs.Common.{◌≡◌, List, map, rules, subst}
use Rattle.phone_records.specs.declared.loader.Metadata.{Metadata}
use Rattle.phone_questions.specs.Kinds.{kinds_of_code}
use Rattle.phone_c_base.specs.Answers.{kind_number}
use Rattle.phone_c_base.specs.Buffers.{IsTooLong, IsWritten}
use Rattle.phone_c.proofs.about.phone_code_kinds.Goals as goal

pub returns-clause-written : goal.returns-clause-written
returns-clause-written c =
    let same : c.database.result.now ≡ c.args.handle.now.records = search rules in
    let after = c.code_kinds-status.new in
    let IsSo = λ (db : List Metadata).
    IsWritten (map kind_number (kinds_of_code db c.args.code)) c.args.out.now after.out after.wrote
    in
    λ is. subst IsSo same (c.code_kinds-status.ensures.written is)

pub returns-clause-too_small : goal.returns-clause-too_small
returns-clause-too_small c =
    let same : c.database.result.now ≡ c.args.handle.now.records = search rules in
    let after = c.code_kinds-status.new in
    let IsSo = λ (db : List Metadata).
    IsTooLong (map kind_number (kinds_of_code db c.args.code)) c.args.out.now after.out after.wrote
    in
    λ is. subst IsSo same (c.code_kinds-status.ensures.too_small is)
