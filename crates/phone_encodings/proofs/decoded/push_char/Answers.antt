use Rattle.std.proofs.Common.{◌<◌, ◌++◌, ap, arith, length, subst, sym, ◌∙◌}
use Rattle.std.proofs.lemmas.List.{length-append}
use Rattle.phone_encodings.proofs.decoded.push_char.Goals as goal

pub returns-clause-pushed : goal.returns-clause-pushed
returns-clause-pushed c = λ yes.
    let e = c.push.ensures.pushed yes in
    let b = c.as_bytes.ensures.value ∙ c.encode_utf8.ensures.value in
    let long : 0 < length c.as_bytes.result.now =
    subst (λ x. 0 < length x) (sym c.as_bytes.ensures.value)
    (omega (arith, c.encode_utf8.ensures.lower_bound)) in (
      e ∙ ap (λ x. c.args.text.now ++ x) b,
      λ none. absurd (omega (
        arith,
        long,
        ap length (sym e ∙ none),
        length-append c.args.text.now c.as_bytes.result.now,
      )),
    )
