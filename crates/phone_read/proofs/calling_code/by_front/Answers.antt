use Rattle.std.proofs.Common.{rules, ◌≡◌, ◌∙◌, Result, Err, IfErr, ap, sym, subst, List, ℕ}
use Rattle.std.specs.Cow.{cow_str_bytes}
use Rattle.std.specs.Result.{result_map_both}
use Rattle.phone_values.specs.declared.error.ParseError.{ParseError}
use Rattle.phone_read.specs.CallingCodes.{code_by_front, with_three}
use Rattle.phone_read.specs.Hints.{Coded}
use Rattle.phone_read.proofs.calling_code.by_front.Goals as goal

-- a refusal that is told is the one that is given, and there is no other
no_other : {T U E : Type 0} (told : Result U E) (r : Result T E) (e : E) → told ≡ Err e → IfErr told (λ e. r ≡ Err e) → IfErr r (λ e. told ≡ Err e)
no_other told r e is h = subst (λ r. IfErr r (λ e. told ≡ Err e)) (sym (subst (λ t. IfErr t (λ e. r ≡ Err e)) is h)) is

pub returns-in_err-code-clause-at_once : goal.returns-in_err-code-clause-at_once
returns-in_err-code-clause-at_once c =
    let digits = cow_str_bytes c.args.number.national in
    let told : List ℕ → Result Coded ParseError = λ t. with_three t (code_by_front c.args.db.now c.args.number.country t) in
    let given : IfErr (told digits) (λ e. c.from_residual.result ≡ Err e) = search rules in
    let is : told digits ≡ Err c.in_err-code.field-0.0 =
    subst (λ t. told t ≡ Err c.in_err-code.field-0.0) c.as_str.ensures.value
    (c.code_by_front-code.ensures.code c.args.number.country ∙ ap (result_map_both _ (λ e. e)) c.in_err-code.ensures.refused) in
    record {
      refusals = given;
      no_other = λ none. no_other (told digits) c.from_residual.result _ is given;
    }

pub returns-clause-at_once : goal.returns-clause-at_once
returns-clause-at_once c = record {
  refusals = search rules;
  no_other = λ none. tt;
}
