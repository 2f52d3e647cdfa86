use Rattle.std.proofs.Common.{rules, IsTrue, chars, ap, sym, true≢false, ◌∙◌}
use Rattle.phone_library_text.specs.Contexts.{IsDomain}
use Rattle.phone_library_text.specs.Places.{parted}
use Rattle.phone_library_text.proofs.Domains.{domain_of_label, domain_of_more, domain_of_stopped, is_last_label, not_domain}
use Rattle.phone_library_text.proofs.Literals.{chars-stop}
use Rattle.phone_library_text.proofs.Words.{iff_same, iff_then}
use Rattle.phone_library_text.proofs.contexts.is_domain.Goals as goal

pub returns-then-is_nothing : goal.returns-then-is_nothing
returns-then-is_nothing c =
    let rest = chars c.loop-label.rest.now in
    let label = chars c.in-Some.label.now in
    let after = chars c.in-Some.after.now in
    iff_then (IsTrue c.is_last_label.result) (IsDomain rest) (IsDomain (chars c.args.text.now))
    (iff_same c.is_last_label.result (is_last_label label) (IsDomain rest) c.is_last_label.ensures
    (domain_of_stopped rest label after (ap (λ w. parted w rest) (sym chars-stop) ∙ c.in-Some.ensures.parted) (c.is_nothing.ensures.nothing c.if-is_nothing.true)))
    c.loop-label.invariant.1

pub returns-then-not-is_label : goal.returns-then-not-is_label
returns-then-not-is_label c =
    let rest = chars c.loop-label.rest.now in (
      λ h. absurd (true≢false (sym h)),
      λ d. absurd (not_domain rest (chars c.in-Some.label.now) (chars c.in-Some.after.now) (ap (λ w. parted w rest) (sym chars-stop) ∙ c.in-Some.ensures.parted)
          (sym c.is_label.ensures ∙ c.if-not-is_label.true) (c.loop-label.invariant.1.1 d)),
    )

pub loop-label-preserved : goal.loop-label-preserved
loop-label-preserved c =
    let rest = chars c.loop-label.rest.now in
    let after = chars c.in-Some.after.now in (
      search rules,
      iff_then (IsDomain after) (IsDomain rest) (IsDomain (chars c.args.text.now))
          (domain_of_more rest (chars c.in-Some.label.now) after (ap (λ w. parted w rest) (sym chars-stop) ∙ c.in-Some.ensures.parted) (c.is_nothing.ensures.something c.if-is_nothing.false)
          (sym c.is_label.ensures ∙ c.if-not-is_label.false))
          c.loop-label.invariant.1,
    )

pub returns : goal.returns
returns c =
    let rest = chars c.loop-label.rest.now in
    iff_then (IsTrue c.is_last_label-2.result) (IsDomain rest) (IsDomain (chars c.args.text.now))
    (iff_same c.is_last_label-2.result (is_last_label rest) (IsDomain rest) c.is_last_label-2.ensures
    (domain_of_label rest (ap (λ w. parted w rest) (sym chars-stop) ∙ c.in_default.ensures.parted)))
    c.loop-label.invariant.1
