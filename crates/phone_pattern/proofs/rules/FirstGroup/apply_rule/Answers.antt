use Rattle.std.proofs.Common.{◌≡◌, ℕ, List, Option, None, Some, slice_range, option_map, string_bytes, IfOk, subst, ap, ap₂, sym, ◌∙◌}
use Rattle.std.proofs.lemmas.Option.{none-some}
use Rattle.std.specs.Option.{unwrap_or}
use Rattle.phone_pattern.specs.First.{Seen, first_match, first_span, names_in, replaced, with_first_replaced}
use Rattle.phone_pattern.specs.Rules.{filled_rule, ruled_at}
use Rattle.phone_pattern.specs.Rules.{first_group_pattern}
use Rattle.phone_pattern.proofs.rules.FirstGroup.apply_rule.Goals as goal

-- the template by the match of a known span
by_span : (template rule prefix carrier : List ℕ) (o : Option Seen) (span : ℕ × ℕ) → Some span ≡ option_map (λ (s : Seen). (s.0, s.1)) o →
    with_first_replaced (names_in first_group_pattern) (filled_rule rule prefix (slice_range template span.0 span.1) carrier) template o
    ≡ ruled_at template rule prefix carrier o
by_span template rule prefix carrier None span e = absurd (none-some span (sym e))
by_span template rule prefix carrier (Some s) span e =
    ap (λ (q : ℕ × ℕ). with_first_replaced (names_in first_group_pattern) (filled_rule rule prefix (slice_range template q.0 q.1) carrier) template (Some s))
    (ap (λ o. unwrap_or o span) e)

pub returns : goal.returns
returns c =
    let template = c.args.template.now in
    let rule = c.args.rule.now in
    let prefix = c.args.prefix.now in
    let carrier = c.args.carrier.now in
    let own : c.self.inside.pattern ≡ first_group_pattern = c.self.invariant in
    let span = sym c.in-Some.is ∙ c.in_ok-start.ensures.span ∙ ap (λ p. first_span p template) own in
    let filled = c.as_str.ensures.value ∙ c.in_ok-rule.ensures ∙ ap (λ g. filled_rule rule prefix g carrier) c.range.ensures.value in
    subst (λ t. IfOk c.replace.result (λ out. string_bytes out ≡ t))
    (ap₂ (λ p t. replaced p t template) own filled
    ∙ by_span template rule prefix carrier (first_match first_group_pattern template) (c.in-Some.start, c.in-Some.end) span)
    c.replace.ensures
