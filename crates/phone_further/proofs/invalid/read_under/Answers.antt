use Rattle.std.proofs.Common.{rules, ◌≡◌, inl, inr, ⊎_elim, Some, Ok, Err, chars, ap, sym, subst, ◌∙◌}
use Rattle.phone_values.specs.declared.error.ParseError.TheVariants.{Memory}
use Rattle.phone_library.specs.Readings
use Rattle.phone_library.specs.Readings.{ReadsByLibrary, reading_under}
use Rattle.phone_further.proofs.TextReads.{is_written}
use Rattle.phone_further.proofs.invalid.read_under.Goals as goal

pub returns-in_err-written : goal.returns-in_err-written
returns-in_err-written c =
    let e = c.in_err-written.field-0.0 in
    let same : c.from_residual.result ≡ Err e = search rules in
    ⊎_elim (λ f. let memory : e ≡ Memory = cc in inl (same ∙ ap Err memory))
    (λ w. inr (λ region is. subst (ReadsByLibrary c.args.database.now (Some region) (chars c.args.text.now)) (sym same) (Readings.refused e w)))
    c.in_err-written.ensures

pub returns : goal.returns
returns c =
    let db = c.args.database.now in
    let t = chars c.args.text.now in
    let w = c.in_ok-written.written in
    ⊎_elim (λ f. inl f)
    (λ f. inr (λ region is. subst (ReadsByLibrary db (Some region) t) (sym (f ∙ ap (λ m. reading_under db m w) is))
    (Readings.written w (is_written t w c.in_ok-written.ensures))))
    c.parse_written.ensures
