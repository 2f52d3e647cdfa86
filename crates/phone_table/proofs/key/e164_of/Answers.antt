use Rattle.std.proofs.Common.{◌∙◌, arith}
use Rattle.phone_table.proofs.KeyLemmas.{key_is_first}
use Rattle.phone_table.proofs.key.e164_of.Goals as goal

pub returns-in-Some-clause-answered : goal.returns-in-Some-clause-answered
returns-in-Some-clause-answered c own answer l e =
    let place = c.in-Some.ensures in
    let len = c.len.ensures in
    c.field_in.ensures ∙ key_is_first _ own answer c.in-Some.place e (omega (arith, place.0, place.1, len, l))
