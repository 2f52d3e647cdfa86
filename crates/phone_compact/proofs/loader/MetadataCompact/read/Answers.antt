use Rattle.std.proofs.Common.{rules}
use Rattle.phone_records.specs.declared.loader.Metadata.{Metadata}
use Rattle.phone_compact.specs.Forms.{◌then◌}
use Rattle.phone_compact.specs.Records.{kinds_of, kinds, prefixes_of, prefixes, layouts_of, layouts}
use Rattle.phone_compact.proofs.Refused.{refused_seen}
use Rattle.phone_compact.proofs.loader.MetadataCompact.read.Goals as goal

pub returns-in_err-kinds-clause-refused : goal.returns-in_err-kinds-clause-refused
returns-in_err-kinds-clause-refused c =
    let h = refused_seen (λ (m : Metadata). (kinds_of m, (prefixes_of m, layouts_of m))) (kinds then prefixes then layouts) c.args.from.now c.in_err-kinds.field-0.0 c.in_err-kinds.ensures.refused in
    search (rules, h)
