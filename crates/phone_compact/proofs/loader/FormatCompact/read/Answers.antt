use Rattle.std.proofs.Common.{rules}
use Rattle.phone_compact.specs.Forms.{truth, text, items, ◌then◌}
use Rattle.phone_compact.specs.Records.{format_fields, word}
use Rattle.phone_compact.proofs.Refused.{refused_seen}
use Rattle.phone_compact.proofs.loader.FormatCompact.read.Goals as goal

pub returns-in_err-fields-clause-refused : goal.returns-in_err-fields-clause-refused
returns-in_err-fields-clause-refused c =
    let h = refused_seen format_fields (word then word then items text then word then truth then word) c.args.from.now c.in_err-fields.field-0.0 c.in_err-fields.ensures.refused in
    search (rules, h)
