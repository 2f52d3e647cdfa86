use Rattle.std.proofs.Common.{rules, inr}
use Rattle.phone_compact.specs.Forms.{text}
use Rattle.phone_compact.specs.Refusals.{BeginsNone}
use Rattle.phone_compact.proofs.Texts.{refused_few, refused_bytes}
use Rattle.phone_compact.proofs.values.TextCompact.read.Goals as goal

pub returns-in_err-bytes-clause-refused : goal.returns-in_err-bytes-clause-refused
returns-in_err-bytes-clause-refused c =
    let h : BeginsNone text c.args.from.now = refused_few c.args.from.now c.number.new.self c.in_ok-length.length c.in_ok-length.ensures.number c.in_err-bytes.ensures.few in
    search (rules, h)

pub returns-in-Err-clause-refused : goal.returns-in-Err-clause-refused
returns-in-Err-clause-refused c =
    inr (refused_bytes c.args.from.now c.number.new.self c.in_ok-length.length c.in_ok-length.ensures.number c.in_ok-bytes.bytes.now c.bytes.new.self c.in_ok-bytes.ensures.bytes c.in_ok-bytes.ensures.count c.in-Err.ensures.cases.0)
