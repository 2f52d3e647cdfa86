use Rattle.serde_json.specs.View.{view}
use Rattle.phone_answers.proofs.ObjectLemmas.{no_float, ok_both, shallow}
use Rattle.phone_answers.proofs.objects.object_line.Goals as goal

pub returns : goal.returns
returns c =
    let d = view c.in_ok-object.object in
    let is = c.in_ok-object.ensures in
    ok_both c.to_string.result _ _ _ (λ s text back. (d, is, text (no_float _ _ _ _ _ _ _ d is), back (shallow _ _ _ _ _ _ _ d is)))
    c.to_string.ensures.text c.to_string.ensures.reads_back
