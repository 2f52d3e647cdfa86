use Rattle.std.proofs.Common.{chars}
use Rattle.phone_commands.specs.FoundLines.{all_tries}
use Rattle.phone_matches.proofs.Orders.{all_ordered}
use Rattle.phone_matches.specs.Numbers.{IsNumberBy}
use Rattle.phone_matches.specs.Told.{told_matches}
use Rattle.phone_commands.proofs.MatchLemmas.{match-territories}
use Rattle.phone_commands.proofs.finder.Finder.take_matches.Goals as goal

pub push_matches-requires-clause-stand : goal.push_matches-requires-clause-stand
push_matches-requires-clause-stand c = rw c.as_slice.ensures.value c.in_ok-all.ensures.stand

pub push_matches-requires-clause-ordered : goal.push_matches-requires-clause-ordered
push_matches-requires-clause-ordered c = rw c.as_slice.ensures.value
    (all_ordered (IsNumberBy _ _ _ _) (chars c.args.text.now) all_tries
    (told_matches c.in_ok-all.all.items) c.in_ok-all.ensures.numbers)

pub push_matches-requires-clause-listed : goal.push_matches-requires-clause-listed
push_matches-requires-clause-listed c = rw c.as_slice.ensures.value
    (match-territories _ _ _ _ (chars c.args.text.now) all_tries c.in_ok-all.all.items
    c.in_ok-all.ensures.numbers)
