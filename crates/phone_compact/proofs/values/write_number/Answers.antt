use Rattle.std.proofs.Common.{◌∙◌, sym, ap, arith, append_assoc, ◌∷◌, [], ◌++◌, ◌-◌}
use Rattle.phone_compact.specs.Forms.{number_written}
use Rattle.phone_compact.proofs.Numbers.{great_number, small_number}
use Rattle.phone_compact.proofs.values.write_number.Goals as goal

pub loop-rest-preserved : goal.loop-rest-preserved
loop-rest-preserved c =
    let out = c.loop-rest.out.items in
    ap (λ bs. bs ++ number_written (c.loop-rest.rest - 255)) c.in_ok-push.ensures.items
    ∙ append_assoc out (255 ∷ []) (number_written (c.loop-rest.rest - 255))
    ∙ ap (λ bs. out ++ bs) (sym (great_number c.loop-rest.rest (omega arith)))
    ∙ c.loop-rest.invariant

pub returns : goal.returns
returns c =
    let out = c.loop-rest.out.items in
    c.in_ok-push-2.ensures.items
    ∙ ap (λ bs. out ++ bs) (sym (small_number c.loop-rest.rest (omega arith)))
    ∙ c.loop-rest.invariant
