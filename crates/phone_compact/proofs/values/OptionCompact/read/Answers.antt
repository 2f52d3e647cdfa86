use Rattle.std.proofs.Common.{rules}
use Rattle.phone_compact.proofs.Refused.{refused_option}
use Rattle.phone_compact.proofs.values.OptionCompact.read.Goals as goal

pub returns-in_err-read-clause-refused : goal.returns-in_err-read-clause-refused
returns-in_err-read-clause-refused g c =
    let h = refused_option g.T.Compact.form c.args.from.now c.in_err-read.field-0.0 c.in_err-read.ensures.refused in
    search (rules, h)
