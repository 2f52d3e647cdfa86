use Rattle.phone_matches_text.specs.Lent.{StandsThere}
use Rattle.phone_matches.proofs.Seams.{end_of_end}
use Rattle.phone_matches.proofs.Tried.{if_some}
use Rattle.phone_matches.specs.Told.{IsWithin}
use Rattle.phone_matches.proofs.search.next_step.Goals as goal

pub tried-requires-clause-end : goal.tried-requires-clause-end
tried-requires-clause-end g c = end_of_end _ _ _ c.requires.end c.in-Some.ensures.end

pub rest_behind-rest-requires-clause-end : goal.rest_behind-rest-requires-clause-end
rest_behind-rest-requires-clause-end g c = end_of_end _ _ _ c.requires.end c.in-Some.ensures.end

pub returns-clause-stands : goal.returns-clause-stands
returns-clause-stands g c =
    if_some c.in_ok-found.field-0.found (IsWithin c.args.text.now c.in-Some.from.now) (λ m. StandsThere c.args.text.now m.place) (λ m w. w.stands)
    c.in_ok-found.ensures.within
