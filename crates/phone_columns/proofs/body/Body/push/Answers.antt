use Rattle.std.proofs.Common.{◌++◌, ◌∷◌, [], ap, ◌∙◌}
use Rattle.phone_c_base.specs.declared.found.Place.{Place}
use Rattle.phone_columns.proofs.BodyLemmas.{has_more}
use Rattle.phone_columns.proofs.body.Body.push.Goals as goal

pub returns : goal.returns
returns c = λ buffers has.
    has_more buffers c.args.buffer.now c.args.self.now _ has c.in_ok-place.ensures.bytes
    (c.in_ok-push.ensures.items ∙ ap (λ (p : Place). c.args.self.now.places.items ++ p ∷ []) c.in_ok-place.ensures.place)
