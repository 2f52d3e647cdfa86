use Rattle.std.proofs.Common.{false, true, option_map, refl, ap, sym, ◌∙◌}
use Rattle.std.proofs.lemmas.Bool.{false≢true}
use Rattle.std.specs.Option.{option_map_or}
use Rattle.regex.specs.Patterns.{find_str, span}
use Rattle.phone_read.specs.Dialling.{found_by}
use Rattle.phone_read.proofs.dialled.HandedFinder.find.Goals as goal

pub returns-in_default-clause-span : goal.returns-in_default-clause-span
returns-in_default-clause-span c = ap (λ o. found_by o c.args.digits.now) (sym c.in_default.is)

pub returns-in_default-clause-cut : goal.returns-in_default-clause-cut
returns-in_default-clause-cut c = tt

pub returns-in_default-clause-no_memory : goal.returns-in_default-clause-no_memory
returns-in_default-clause-no_memory c idle = refl

pub returns-in_err-matcher-clause-no_memory : goal.returns-in_err-matcher-clause-no_memory
returns-in_err-matcher-clause-no_memory c idle = absurd (false≢true (ap (λ o. option_map_or (λ _. false) o true) (sym c.in-Some.is) ∙ idle))

pub returns-clause-span : goal.returns-clause-span
returns-clause-span c =
    let digits = c.args.digits.now in
    c.span_of.ensures ∙ c.find.ensures.found ∙ ap (λ p. option_map span (find_str p digits 0)) c.in_ok-matcher.ensures.pattern
    ∙ ap (λ o. found_by o digits) (sym c.in-Some.is)

pub returns-clause-no_memory : goal.returns-clause-no_memory
returns-clause-no_memory c idle = refl
