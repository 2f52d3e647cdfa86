use Rattle.std.proofs.Common.{rules, ◌∷◌, [], ◌++◌, cond, Some, codes, chars, IfSome, append_assoc, append-nil, ⊎_elim, ap₂, sym, subst, ◌∙◌}
use Rattle.std.specs.Str.{bytes_eq}
use Rattle.phone_parts.specs.Parts.{IsSlice}
use Rattle.phone_parts.specs.Tel
use Rattle.phone_parts.specs.Tel.{HasParameters, Parameter}
use Rattle.phone_parts.proofs.Slices.{slice_of_end, end_of_end}
use Rattle.phone_parts.proofs.Tels.{value_of-push, chars_context, chars_ext}
use Rattle.phone_parts.proofs.parameters.read_parameters.Goals as goal

pub loop-name-preserved : goal.loop-name-preserved
loop-name-preserved c =
    let v = c.loop-name.invariant.1 in
    let i = c.loop-name.invariant.2 in
    let rest = chars c.loop-name.rest.now in
    let text = chars c.args.text.now in
    let name = chars c.in-Some.name.now in
    let value = chars c.in-Some.value.now in
    let p : Parameter = record { name = name; value = value } in
    let slice : IsSlice c.args.text.now c.in-Some.value.now = slice_of_end _ v.0 _ _ v.1 c.in-Some.ensures.value in (
      search rules,
      end_of_end _ _ _ v c.in-Some.ensures.end,
      (
        i.0 ++ p ∷ [],
        (λ ps h. subst (HasParameters text) (sym (append_assoc i.0 (p ∷ []) ps)) (i.1 (p ∷ ps) (Tel.one_more p ps rest (chars c.in-Some.after.now) c.in-Some.ensures.read h))),
        c.newer.ensures.read ∙ ap₂ (λ w o. cond (bytes_eq name w) (Some value) o) chars_context i.2 ∙ sym (value_of-push (codes "phone-context") i.0 p),
        c.newer-in-Some.ensures.read ∙ ap₂ (λ w o. cond (bytes_eq name w) (Some value) o) chars_ext i.3 ∙ sym (value_of-push (codes "ext") i.0 p),
      ),
      ⊎_elim
          (λ e. subst (λ o. IfSome o (λ x. IsSlice c.args.text.now x.now)) (sym e) slice)
          (λ e. subst (λ o. IfSome o (λ x. IsSlice c.args.text.now x.now)) (sym e) c.loop-name.invariant.3)
          c.newer.ensures.one_of,
      ⊎_elim
          (λ e. subst (λ o. IfSome o (λ x. IsSlice c.args.text.now x.now)) (sym e) slice)
          (λ e. subst (λ o. IfSome o (λ x. IsSlice c.args.text.now x.now)) (sym e) c.loop-name.invariant.4)
          c.newer-in-Some.ensures.one_of,
    )

pub returns-clause-read : goal.returns-clause-read
returns-clause-read c =
    let i = c.loop-name.invariant.2 in
    let rest = chars c.loop-name.rest.now in
    (i.0, subst (HasParameters (chars c.args.text.now)) (append-nil i.0) (i.1 [] (Tel.no_more rest c.in_default.ensures.read)), i.2, i.3)
