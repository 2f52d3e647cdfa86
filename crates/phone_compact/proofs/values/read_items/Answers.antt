use Rattle.std.proofs.Common.{rules}
use Rattle.phone_compact.proofs.Lists.{goes_on_to_end, goes_on_past, to_come_past}
use Rattle.phone_compact.proofs.Lists.{marked, unmarked, refused_at_mark, refused_at_item}
use Rattle.phone_compact.proofs.values.read_items.Goals as goal

pub returns-in_err-read-clause-refused : goal.returns-in_err-read-clause-refused
returns-in_err-read-clause-refused g c =
    let h = refused_at_mark g.T.Compact.form c.args.from.now c.loop-items.from c.in_err-read.field-0.0 c.loop-items.invariant.1 c.in_err-read.ensures.refused in
    search (rules, h)

pub returns-in_err-read-2-clause-refused : goal.returns-in_err-read-2-clause-refused
returns-in_err-read-2-clause-refused g c =
    let mark = marked c.in_ok-read.field-0 c.loop-items.from c.read.new.from c.if-branch.true c.in_ok-read.ensures.value in
    let h = refused_at_item g.T.Compact.form c.args.from.now c.loop-items.from c.in_err-read-2.field-0.0 c.read.new.from c.loop-items.invariant.1 mark c.in_err-read-2.ensures.refused in
    search (rules, h)

pub loop-items-preserved : goal.loop-items-preserved
loop-items-preserved g c =
    let form = g.T.Compact.form in
    let whole = c.args.from.now in
    let now = c.loop-items.from in
    let mid = c.read.new.from in
    let after = c.read-in-loop-items.new.from in
    let xs = c.loop-items.items.items in
    let x = c.in_ok-read-2.field-0 in
    let mark = marked c.in_ok-read.field-0 now mid c.if-branch.true c.in_ok-read.ensures.value in
    let item = c.in_ok-read-2.ensures.value in (
      goes_on_past form whole now xs c.push.new.self.items x mid after c.in_ok-push.ensures.items c.loop-items.invariant.0 mark item,
      to_come_past form whole now g.met.T.Compact.unique x mid after c.loop-items.invariant.1 mark item,
    )

pub returns-clause-value : goal.returns-clause-value
returns-clause-value g c =
    let end = unmarked c.in_ok-read.field-0 c.loop-items.from c.read.new.from c.if-branch.false c.in_ok-read.ensures.value in
    goes_on_to_end g.T.Compact.form c.args.from.now c.loop-items.from c.loop-items.items.items c.read.new.from c.loop-items.invariant.0 end
