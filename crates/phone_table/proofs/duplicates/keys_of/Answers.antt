use Rattle.phone_table.proofs.SharedLemmas.{few_found, shared_turn}
use Rattle.phone_table.proofs.duplicates.keys_of.Goals as goal

pub count_one-requires : goal.count_one-requires
count_one-requires c = few_found c.loop-place.keys.entries c.args.all.now c.loop-place.place c.loop-place-test.true c.loop-place.invariant c.index-all-place.result.key

pub loop-place-preserved : goal.loop-place-preserved
loop-place-preserved c =
    shared_turn c.args.all.now c.index-all-place.result c.loop-place.place c.loop-place.keys.entries c.count_one.new.keys.entries c.loop-place-test.true c.index-all-place.is
    c.loop-place.invariant c.in_ok-count_one.ensures
