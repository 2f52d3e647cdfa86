use Rattle.std.proofs.Common.{refl}
use Rattle.phone_places.proofs.Rising.{above_if_last, above_none, at_place, none_last}
use Rattle.phone_places.proofs.countries.is_above.Goals as goal

pub returns-in-Some : goal.returns-in-Some
returns-in-Some c =
    let at = at_place c.args.entries.now _ c.in-Some.last.now c.in-Some.ensures.value in
    let both = above_if_last c.args.entries.now c.requires c.args.name.now c.in-Some.last.now at in
    ((λ t. both.0 (c.is_below.ensures.0 t)), (λ h. c.is_below.ensures.1 (both.1 h)))

pub returns-in-None : goal.returns-in-None
returns-in-None c = ((λ _. above_none c.args.entries.now c.args.name.now (none_last c.args.entries.now c.in-None.ensures.value)), (λ _. refl))
