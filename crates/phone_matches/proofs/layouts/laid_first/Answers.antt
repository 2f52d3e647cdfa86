use Rattle.std.proofs.Common.{rules, [], string_bytes, unwrap_or, ap, sym, ◌∙◌}
use Rattle.phone_matches.proofs.Laid.{first_empty, first_none, laid_front}
use Rattle.phone_territory.specs.First.{first_span}
use Rattle.phone_matches.proofs.layouts.laid_first.Goals as goal

pub returns-in_default : goal.returns-in_default
returns-in_default c =
    first_none c.args.layout.now c.args.digits.now
    (sym c.in_default.is ∙ c.in_ok-end.ensures.span ∙ ap (λ p. first_span (unwrap_or p []) c.args.digits.now) (sym c.whole_pattern.ensures))

pub returns-then-end-eq0 : goal.returns-then-end-eq0
returns-then-end-eq0 c =
    first_empty c.args.layout.now c.args.digits.now _ _
    (sym c.in-Some.is ∙ c.in_ok-end.ensures.span ∙ ap (λ p. first_span (unwrap_or p []) c.args.digits.now) (sym c.whole_pattern.ensures))
    c.if-end-eq0.true

pub returns : goal.returns
returns c =
    laid_front c.args.layout.now c.args.digits.now (string_bytes c.in_ok-whole.whole) _ _ _ _
    (sym c.in-Some.is ∙ c.in_ok-end.ensures.span ∙ ap (λ p. first_span (unwrap_or p []) c.args.digits.now) (sym c.whole_pattern.ensures))
    c.if-end-eq0.false (search rules) c.in_ok-whole.ensures
    (λ v e. c.in_ok-laid.ensures.ok ∙ c.before-2.ensures.before v (c.as_str.ensures.value ∙ e))
