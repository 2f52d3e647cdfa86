use Rattle.std.proofs.Common.{ap, option_map, sym, subst, IfSome, ◌∙◌}
use Rattle.std.specs.Option.{option_and_then}
use Rattle.phone_read.specs.Origins.{FoundKind, by_name, shown}
use Rattle.phone_read.proofs.ToldKinds.{kind_named}
use Rattle.phone_read.proofs.validator.origin_of_several.Goals as goal

pub returns-in-Some-clause-origin : goal.returns-in-Some-clause-origin
returns-in-Some-clause-origin c =
    c.origin_named.ensures.origin
    ∙ ap (λ o. option_and_then by_name (option_map shown o)) (sym c.in-Some.is)
    ∙ ap (option_and_then by_name) c.in_ok-found.ensures.region

pub returns-in-Some-clause-kind : goal.returns-in-Some-clause-kind
returns-in-Some-clause-kind c =
    kind_named c.args.text.now c.in-Some.found _
    (subst (λ o. IfSome o (FoundKind c.args.text.now)) c.in-Some.is c.in_ok-found.ensures.kind) c.origin_named.ensures.kind

pub returns-in-None-clause-origin : goal.returns-in-None-clause-origin
returns-in-None-clause-origin c =
    ap (λ o. option_and_then by_name (option_map shown o)) (sym c.in-None.is)
    ∙ ap (option_and_then by_name) c.in_ok-found.ensures.region
