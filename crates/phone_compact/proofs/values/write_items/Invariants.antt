use Rattle.std.proofs.Common.{◌≡◌, ◌++◌, drop}
use Rattle.phone_compact.specs.Forms.{items}
use Rattle.phone_compact.proofs.values.write_items.Given as goal

abbrev pub invariant-loop-item : goal.invariant-loop-item
invariant-loop-item g l =
    let written = (items g.T.Compact.form).written in
    l.out.items ++ written (drop l.item-index l.list) ≡ l.fn.out.items ++ written l.fn.list
