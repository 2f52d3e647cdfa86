use Rattle.phone_table.proofs.SharedLemmas.{rows_turn}
use Rattle.phone_table.proofs.duplicates.push_rows.Goals as goal

pub loop-place-preserved : goal.loop-place-preserved
loop-place-preserved c =
    rows_turn c.args.format c.args.all.now c.index-all-place.result c.loop-place.place c.args.keys.now.entries c.args.text.now.items c.loop-place.text.items c.push_row.new.text.items
    c.loop-place-test.true c.index-all-place.is c.requires c.loop-place.invariant c.in_ok-push_row.ensures
