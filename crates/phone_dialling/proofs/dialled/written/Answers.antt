use Rattle.std.proofs.Common.{Some, chars, string_bytes}
use Rattle.phone_dialling.proofs.Answered.{told_so}
use Rattle.phone_dialling.specs.Dialled
use Rattle.phone_dialling.specs.Dialled.{IsDialled, with_letters}
use Rattle.phone_dialling.proofs.dialled.written.Goals as goal

pub returns : goal.returns
returns c =
    let db = c.args.database.now in
    let n = c.args.number.now in
    let front = chars c.split_extension.result.0.now in
    told_so string_bytes (IsDialled db c.args.from n (Some c.args.raw.now)) (with_letters db c.args.from n front) c.with_letters.result
    (Dialled.written c.args.raw.now front _ c.split_extension.ensures.read) c.with_letters.ensures
