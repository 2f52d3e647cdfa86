use Rattle.std.proofs.Common.{rules}
use Rattle.phone_records.specs.declared.loader.Defaults.{Defaults}
use Rattle.phone_compact.specs.Forms.{◌then◌}
use Rattle.phone_compact.specs.Records.{format, descriptor}
use Rattle.phone_compact.proofs.Refused.{refused_seen}
use Rattle.phone_compact.proofs.loader.DefaultsCompact.read.Goals as goal

pub returns-in_err-format-clause-refused : goal.returns-in_err-format-clause-refused
returns-in_err-format-clause-refused c =
    let h = refused_seen (λ (d : Defaults). (d.format, d.descriptor)) (format then descriptor) c.args.from.now c.in_err-format.field-0.0 c.in_err-format.ensures.refused in
    search (rules, h)
