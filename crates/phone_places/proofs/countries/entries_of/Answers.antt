use Rattle.std.proofs.Common.{rules, sym, ◌∙◌}
use Rattle.std.proofs.lemmas.Bool.{eqb-true}
use Rattle.std.proofs.lemmas.List.{nil_from_length}
use Rattle.phone_places.proofs.Loading.{refuses_next, so_far_all, so_far_next, so_far_none}
use Rattle.phone_places.proofs.countries.entries_of.Goals as goal

pub loop-rest-init : goal.loop-rest-init
loop-rest-init c = (search rules, so_far_none c.args.text.now _ (search rules))

pub loop-rest-preserved : goal.loop-rest-preserved
loop-rest-preserved c =
    let (line, is, more) = c.in-Ok.ensures.taken in
    (search rules, so_far_next c.args.text.now c.loop-rest.rest.now c.loop-rest.entries.items line _ _ c.loop-rest.invariant.1 is more)

pub returns-in-Err-clause-refused : goal.returns-in-Err-clause-refused
returns-in-Err-clause-refused c = refuses_next c.args.text.now c.loop-rest.rest.now c.loop-rest.entries.items c.in-Err.error c.loop-rest.invariant.1 c.in-Err.ensures.refused

pub returns-clause-table : goal.returns-clause-table
returns-clause-table c = so_far_all c.args.text.now c.loop-rest.rest.now c.loop-rest.entries.items c.loop-rest.invariant.1
    (nil_from_length _ (eqb-true _ _ (sym c.is_empty.ensures ∙ c.loop-rest-test.false)))

pub returns-clause-rises : goal.returns-clause-rises
returns-clause-rises c = c.loop-rest.invariant.1.rises
