use Rattle.std.proofs.Common.{rules, ◌≡◌, Some, sym}
use Rattle.csv.specs.Records.{field_at, fields_of}
use Rattle.phone_table.proofs.ColumnLemmas.{column_of-found, column_of-none}
use Rattle.phone_table.proofs.header.column_of.Goals as goal

pub returns-then-eq : goal.returns-then-eq
returns-then-eq c =
    let e : field_at (fields_of c.args.header.now) c.loop-column.column ≡ Some c.args.name.now = search rules in
    sym (column_of-found (fields_of c.args.header.now) c.args.name.now c.loop-column.column c.loop-column.invariant e)

pub returns : goal.returns
returns c = sym (column_of-none (fields_of c.args.header.now) c.args.name.now (λ j l. c.loop-column.invariant j (search rules)))
