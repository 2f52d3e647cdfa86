use Rattle.std.proofs.Common.{[], rules}
use Rattle.phone_plans.proofs.Refused.{refused-first_group, refused-territories}
use Rattle.phone_meta.proofs.tree.Tree.compile.Goals as goal

pub returns-in_err-territories-clause-refused : goal.returns-in_err-territories-clause-refused
returns-in_err-territories-clause-refused c =
    let e = c.in_err-territories.field-0.0 in
    let h = refused-territories c.args.records.items e c.requires c.in_err-territories.ensures.read.1 in
    search (rules, h)

pub returns-in_err-territories-2-clause-refused : goal.returns-in_err-territories-2-clause-refused
returns-in_err-territories-2-clause-refused c =
    let e = c.in_err-territories-2.field-0.0 in
    let others = c.zip_read-others.ensures.read [] _ c.by_id-by_id.ensures.read c.first_group.ensures.read in
    let all = c.in_err-territories-2.ensures.read [] _ (tt, tt) others in
    let h = refused-first_group c.args.records.items e c.requires c.in_ok-territories.ensures.read.0 all.1 in
    search (rules, h)
