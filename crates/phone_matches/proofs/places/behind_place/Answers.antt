use Rattle.std.proofs.Common.{◌++◌, chars, ap, ◌∙◌}
use Rattle.phone_matches.proofs.Seams.{behind_parts, same_rest}
use Rattle.phone_matches.proofs.places.behind_place.Goals as goal

pub behind-from-requires : goal.behind-from-requires
behind-from-requires c = (c.args.place.text.now ++ c.requires.after, c.requires.whole)

pub behind-requires : goal.behind-requires
behind-requires c = (c.requires.after, same_rest _ _ _ _ c.behind-from.ensures.whole c.requires.whole)

pub returns-clause-read : goal.returns-clause-read
returns-clause-read c =
    behind_parts _ _ _ _ (c.behind-from.ensures.read ∙ ap (λ t. chars c.args.place.before.now ++ t) c.behind.ensures.read)

pub returns-clause-whole : goal.returns-clause-whole
returns-clause-whole c = c.behind-from.ensures.whole ∙ ap (λ t. c.args.place.before.now ++ t) c.behind.ensures.whole
