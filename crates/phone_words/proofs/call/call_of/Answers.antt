use Rattle.std.proofs.Common.{◌∙◌, ap, inl, inr, sym}
use Rattle.std.proofs.lemmas.Result.{IfErr-weaker, IfOk-weaker}
use Rattle.phone_words.specs.Calls.{meaning_in}
use Rattle.phone_words.specs.Parts.{all_said, and_then}
use Rattle.phone_words.proofs.call.call_of.Goals as goal

pub returns-in-Ok-clause-call : goal.returns-in-Ok-clause-call
returns-in-Ok-clause-call c =
    let e = ap (λ x. and_then x meaning_in) c.in-Ok.ensures.parts
    ∙ ap (λ ps. meaning_in (all_said ps)) (sym c.as_slice.ensures.value) in
    IfOk-weaker c.call_in.result _ _
    (λ call h. record { meant = h.meant; means = e ∙ h.means; says = h.says })
    c.call_in.ensures.call

pub returns-in-Ok-clause-refused : goal.returns-in-Ok-clause-refused
returns-in-Ok-clause-refused c =
    let e = ap (λ x. and_then x meaning_in) c.in-Ok.ensures.parts
    ∙ ap (λ ps. meaning_in (all_said ps)) (sym c.as_slice.ensures.value) in
    IfErr-weaker c.call_in.result _ _ (λ x h. elim h [ inl m ↦ inl m | inr n ↦ inr (e ∙ n) ])
    c.call_in.ensures.refused

pub returns-in-Err-clause-refused : goal.returns-in-Err-clause-refused
returns-in-Err-clause-refused c =
    elim c.in-Err.ensures.refused
    [ inl m ↦ inl m | inr n ↦ inr (ap (λ x. and_then x meaning_in) n) ]
