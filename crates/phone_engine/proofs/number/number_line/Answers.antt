use Rattle.std.proofs.Common.{string_bytes}
use Rattle.phone_engine.proofs.NumberLines.{number_line-parted}
use Rattle.phone_engine.proofs.number.number_line.Goals as goal

pub returns-clause-line : goal.returns-clause-line
returns-clause-line c =
    let fields = c.in_ok-push_number.ensures.fields in (
      fields.0,
      fields.1,
      number_line-parted c.args.engine.rules c.args.engine.database.now fields.0 c.args.number.now (string_bytes c.in-Ok.line)
          (string_bytes c.push_number.new.line) c.in-Ok.ensures fields.2,
    )
