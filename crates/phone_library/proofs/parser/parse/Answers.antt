use Rattle.std.proofs.Common.{rules, ◌≡◌, inl, inr, ⊎_elim, Ok, Err, ap, sym, subst, ◌∙◌}
use Rattle.std.specs.Str.{chars}
use Rattle.phone_values.specs.declared.error.ParseError.TheVariants.{Memory}
use Rattle.phone_library.specs.Readings
use Rattle.phone_library.specs.Readings.{ReadsByLibrary, reading_under}
use Rattle.phone_library_text.specs.Written.{IsWritten}
use Rattle.phone_library.proofs.parser.parse.Goals as goal

not_both : {T E : Type 0} (x : T) (e : E) → ¬ (Ok x ≡ Err e)
not_both x e f = cc

pub returns-in_err-number : goal.returns-in_err-number
returns-in_err-number c =
    let e = c.in_err-number.field-0.0 in
    let same : c.from_residual.result ≡ Err e = search rules in
    ⊎_elim (λ f. let memory : e ≡ Memory = cc in inl (same ∙ ap Err memory))
    (λ w. inr (subst (ReadsByLibrary c.args.database.now c.args.hint (chars c.args.text.now)) (sym same) (Readings.refused e w)))
    c.in_err-number.ensures

pub returns : goal.returns
returns c =
    let db = c.args.database.now in
    let t = chars c.args.text.now in
    let number = c.in_ok-number.number in
    let written : IsWritten t (Ok number) = ⊎_elim (λ f. absurd (not_both _ _ f)) (λ w. w) c.in_ok-number.ensures in
    ⊎_elim (λ f. inl f)
    (λ f. inr (subst (ReadsByLibrary db c.args.hint t) (sym (f ∙ ap (λ m. reading_under db m number) c.hint_territory.ensures)) (Readings.written number written)))
    c.parse_written.ensures
