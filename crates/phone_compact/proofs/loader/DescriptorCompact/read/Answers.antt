use Rattle.std.proofs.Common.{rules}
use Rattle.phone_compact.specs.Forms.{number, items, ◌then◌}
use Rattle.phone_compact.specs.Records.{descriptor_fields, word}
use Rattle.phone_compact.proofs.Refused.{refused_seen}
use Rattle.phone_compact.proofs.loader.DescriptorCompact.read.Goals as goal

pub returns-in_err-fields-clause-refused : goal.returns-in_err-fields-clause-refused
returns-in_err-fields-clause-refused c =
    let h = refused_seen descriptor_fields (word then items number then items number then word) c.args.from.now c.in_err-fields.field-0.0 c.in_err-fields.ensures.refused in
    search (rules, h)
