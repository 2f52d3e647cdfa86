use Rattle.std.proofs.Common.{rules}
use Rattle.std.specs.Option.{option_to_list}
use Rattle.phone_meta.proofs.Read.{refused-after}
use Rattle.phone_meta.proofs.format.FormatCompile.compile.Goals as goal

pub returns-in_err-light-clause-read : goal.returns-in_err-light-clause-read
returns-in_err-light-clause-read c =
    let given = c.args.given in
    let h = refused-after (option_to_list given.pattern) given.leading_digits c.compile-light.result c.new-leading.result c.in_err-light.field-0.0 c.compile-light.ensures.read (rw c.as_slice.ensures at c.new-leading.ensures.refused) c.in_err-light.ensures.first_refused in
    search (rules, h)
