use Rattle.std.proofs.Common.{[], rules}
use Rattle.phone_territory.specs.Refusals.{patterns_in}
use Rattle.phone_meta.proofs.Read.{refused-after}
use Rattle.phone_meta.proofs.metadata.MetadataCompile.compile.Goals as goal

pub returns-in_err-light-clause-read : goal.returns-in_err-light-clause-read
returns-in_err-light-clause-read c =
    let h = refused-after [] (patterns_in c.args.given) c.light-light.result c.compile_parts.result c.in_err-light.field-0.0 c.light-light.ensures.read c.compile_parts.ensures.read.1 c.in_err-light.ensures.first_refused in
    search (rules, h)
